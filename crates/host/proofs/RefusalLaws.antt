-- Demand 1 of the calls on lent memory: number n is given exactly where rule n is the first of the list that the call breaks.
-- Assumes nothing.
use Prim.Native.Nat.{ℕ, zero, suc}
use mathlib.Core.Path.{◌≡◌, refl, sym, ap, ◌∙◌}
use mathlib.Core.Bool.{Bool, true, false}
use mathlib.Core.List.{List, [], ◌∷◌}
use mathlib.Core.Logic.{◌↔◌}
use lib.Dec.{eqb, leb}
use lib.ListN.{length}
use Rattle.octets.specs.Choice.{unless}
use Rattle.octets.proofs.SaysLaws.{never, says_no}
use Rattle.octets.proofs.ChoiceLaws.{says_le, says_eq}
use Rattle.sheet.specs.Test.{good_sheet}
use Rattle.sheet.proofs.TestLaws.{good-says}
use Rattle.model.specs.Table.{Table, least_output, assembling_size, Call, refuses, if_lent, step, number_of}
use Rattle.model.proofs.Cases.{split}
use Rattle.model.proofs.TableTest.{TableKeeps, FirstBroken, first_failed, none, also, first_broken}
use Rattle.model.proofs.RefusalList.{FarmKnown, RowOpen, NotWaiting, RowLeft, UserFits, EndsKnown, lent_rules, refusals, start_refusals}
use Rattle.lent.specs.Lent.{whole_table, lent_table, lent_of, lent_step, lent_start}
use Rattle.lent.specs.Served.{Memory}
use Rattle.host.proofs.HistoryLaws.{lent-step}

-- ---- the list

-- "the table breaks a rule above": bytes that are those of no table break the rules too
pub record TableGood (s t m : List ℕ) : Type 0 where
  pub whole : whole_table t ≡ true
  pub keeps : TableKeeps s (lent_table s t m)

-- rules 5 to 10
abbrev pub later_rules : List ℕ → Call → Table → List (Type 0)
later_rules s c t = FarmKnown s c ∷ RowOpen s t c ∷ NotWaiting s t c ∷ RowLeft s t c ∷ UserFits s c ∷ EndsKnown s t c ∷ []

-- THE LIST, of a call on lent memory: rule 1 is the first (`lent_rules` has the first three), rule 10 the last
abbrev pub call_rules : List ℕ → Call → Memory → List (Type 0)
call_rules s c before =
    lent_rules s (lent_of before.output before.assembling)
    (TableGood s before.table before.assembling ∷ later_rules s c (lent_table s before.table before.assembling))

-- of a start: "1 to 4 hold for every call, but start skips 4."
abbrev pub start_rules : List ℕ → Memory → List (Type 0)
start_rules s before = lent_rules s (lent_of before.output before.assembling) []

-- ---- the same rule said in another way; rules behind one that is broken

swap_first : {K L : Type 0} (Ks : List (Type 0)) → (K ↔ L) → (n : ℕ) → FirstBroken (K ∷ Ks) n ↔ FirstBroken (L ∷ Ks) n
swap_first Ks e zero = (λ h. (e.0 h.0, h.1), λ h. (e.1 h.0, h.1))
swap_first Ks e (suc zero) = (λ h k. h (e.1 k), λ h k. h (e.0 k))
swap_first Ks e (suc (suc n)) = (λ h. (e.0 h.0, h.1), λ h. (e.1 h.0, h.1))

cut_behind : {K : Type 0} (Ks : List (Type 0)) → (K → ⊥) → (n : ℕ) → FirstBroken (K ∷ []) n ↔ FirstBroken (K ∷ Ks) n
cut_behind Ks k zero = (λ h. absurd (k h.0), λ h. absurd (k h.0))
cut_behind Ks k (suc zero) = (λ h. h, λ h. h)
cut_behind Ks k (suc (suc n)) = (λ h. absurd (k h.0), λ h. absurd (k h.0))

behind : (K : Type 0) (Ks Ls : List (Type 0)) → ((n : ℕ) → FirstBroken Ks n ↔ FirstBroken Ls n) → (n : ℕ) → FirstBroken (K ∷ Ks) n ↔ FirstBroken (K ∷ Ls) n
behind K Ks Ls e zero = (λ h. (h.0, (e 0).0 h.1), λ h. (h.0, (e 0).1 h.1))
behind K Ks Ls e (suc zero) = (λ h. h, λ h. h)
behind K Ks Ls e (suc (suc n)) = (λ h. (h.0, (e (suc n)).0 h.1), λ h. (h.0, (e (suc n)).1 h.1))

-- ---- the number

module _ (s : List ℕ) (c : Call) (before : Memory) where
  abbrev later : List (Type 0)
  later = later_rules s c (lent_table s before.table before.assembling)

  -- rules 1 to 3 before two lists
  behind_3 : (Ks Ls : List (Type 0)) → ((n : ℕ) → FirstBroken Ks n ↔ FirstBroken Ls n) → (n : ℕ)
      → FirstBroken (lent_rules s (lent_of before.output before.assembling) Ks) n ↔ FirstBroken (lent_rules s (lent_of before.output before.assembling) Ls) n
  behind_3 Ks Ls e n = behind _ (_ ∷ _ ∷ Ks) (_ ∷ _ ∷ Ls) (behind _ (_ ∷ Ks) (_ ∷ Ls) (behind _ Ks Ls e)) n

  on_a_table : whole_table before.table ≡ true → (n : ℕ)
      → (number_of (lent_step s before.table before.output before.assembling c) ≡ n) ↔ FirstBroken (call_rules s c before) n
  on_a_table w n =
      let e = ap number_of (lent-step s before.table before.output before.assembling c w) in
      let d = refusals s (lent_of before.output before.assembling) (lent_table s before.table before.assembling) c n in
      let k = behind_3 (TableKeeps s (lent_table s before.table before.assembling) ∷ later) (TableGood s before.table before.assembling ∷ later)
      (swap_first later (λ g. record { whole = w; keeps = g }, λ g. g.keeps)) n in
      (λ x. k.0 (d.0 (sym e ∙ x)), λ h. e ∙ d.1 (k.1 h))

  four : (a b d : Bool) → number_of (unless a (refuses 1) (unless b (refuses 2) (unless d (refuses 3) (refuses 4)))) ≡ first_failed (a ∷ b ∷ d ∷ false ∷ [])
  four false b d = refl
  four true false d = refl
  four true true false = refl
  four true true true = refl

  no_table_number : whole_table before.table ≡ false
      → number_of (lent_step s before.table before.output before.assembling c)
      ≡ first_failed (good_sheet s ∷ leb least_output (length before.output) ∷ eqb (length before.assembling) assembling_size ∷ false ∷ [])
  unfolding lent_step
  no_table_number w =
      ap
      (λ (b : Bool). number_of (if_lent s (lent_of before.output before.assembling)
      (unless b (refuses 4) (step s (lent_of before.output before.assembling) (lent_table s before.table before.assembling) c))))
      w
      ∙ four (good_sheet s) (leb least_output (length before.output)) (eqb (length before.assembling) assembling_size)

  on_no_table : whole_table before.table ≡ false → (n : ℕ)
      → (number_of (lent_step s before.table before.output before.assembling c) ≡ n) ↔ FirstBroken (call_rules s c before) n
  on_no_table w n =
      let not : TableGood s before.table before.assembling → ⊥ = λ g. never (sym w ∙ g.whole) in
      let e = no_table_number w in
      let d =
      first_broken
      (also (good-says s)
      (also (says_le least_output (length before.output)) (also (says_eq (length before.assembling) assembling_size) (also (says_no not) none)))) n in
      let k = behind_3 (TableGood s before.table before.assembling ∷ []) (TableGood s before.table before.assembling ∷ later) (cut_behind later not) n in
      (λ x. k.0 (d.0 (sym e ∙ x)), λ h. e ∙ d.1 (k.1 h))

  -- EACH NUMBER EXACTLY WHERE ITS RULE IS THE FIRST THAT IS BROKEN, whatever is lent
  pub lent-refusals : (n : ℕ) → (number_of (lent_step s before.table before.output before.assembling c) ≡ n) ↔ FirstBroken (call_rules s c before) n
  lent-refusals n = split (whole_table before.table) (λ w. on_a_table w n) (λ w. on_no_table w n)

pub lent_start_refusals : (s : List ℕ) (before : Memory) (n : ℕ)
    → (number_of (lent_start s before.table before.output before.assembling) ≡ n) ↔ FirstBroken (start_rules s before) n
unfolding lent_start
lent_start_refusals s before n = start_refusals s (lent_of before.output before.assembling) (lent_table s before.table before.assembling) n

-- From the code's facts to `Served`: a call that is refused at the gate, and a start.
-- Assumes nothing.
use Rattle.std.proofs.Common.{Result}
use Rattle.std.specs.Result.{IsErrAnd}
use Rattle.std.proofs.lemmas.Result.{err_from_is_err_and}
use Prim.Native.Nat.{ℕ, zero, suc, ◌<◌}
use mathlib.Core.Path.{◌≡◌, refl, sym, ap, ◌∙◌, subst}
use mathlib.Core.List.{List, []}
use native.Mathlib.Omega.{arith}
use lib.ListN.{length, replicate, length-replicate}
use Rattle.kinds.specs.declared.Refusal.{Refusal}
use Rattle.kinds.specs.declared.Refusal.TheVariants.{SheetBroken, OutputShort, AssemblingWrong, TableBroken, FarmUnknown, RowNotOpen, RowWaits, NoFreeRow, UserUnfit, EndsUnknown}
use Rattle.kinds.specs.Number.{refusal_number}
use Rattle.outsheet.specs.Sheet.{sheet_of}
use Rattle.outsheet.specs.Replies.{entries_of}
use Rattle.outsheet.specs.Contracts.{Wrote}
use Rattle.model.specs.Move.{no_row}
use Rattle.model.specs.Table.{Call, Outcome, refuses}
use Rattle.table.specs.Layout.{table_size}
use Rattle.lent.specs.declared.Answer.{Answer}
use Rattle.lent.specs.Lent.{lent_table, lent_step, lent_start}
use Rattle.lent.specs.Gate.{start_number, gate_number, Lendable}
use Rattle.lent.specs.Served.{refusal, done, answered, Memory, memory, Served}
use Rattle.lent.proofs.GateLaws.{started, gate_refuses, start_refuses, starts}
use Rattle.lent.proofs.ServedLaws.{served-refused, Left, served-did}
use Rattle.lent.proofs.ZeroLaws.{zero-whole, zero-means}

-- a refusal, as the code answers it
pub refused_as : (s : List ℕ) (o : Outcome) (n : ℕ) (a : Answer) (before : Memory) → a ≡ refusal n → o ≡ refuses n → Served s o a before before
refused_as s o n a before e k = subst (λ (x : Answer). Served s o x before before) (sym e) (served-refused s o n before k)

-- a refusal has a number
pub above_0 : (why : Refusal) → 0 < refusal_number why
above_0 SheetBroken = omega arith
above_0 OutputShort = omega arith
above_0 AssemblingWrong = omega arith
above_0 TableBroken = omega arith
above_0 FarmUnknown = omega arith
above_0 RowNotOpen = omega arith
above_0 RowWaits = omega arith
above_0 NoFreeRow = omega arith
above_0 UserUnfit = omega arith
above_0 EndsUnknown = omega arith

answered-why : (why : Refusal) (r : Result Answer Refusal) → IsErrAnd r (λ e. e ≡ why) → answered r ≡ refusal (refusal_number why)
answered-why why r k = let p = err_from_is_err_and r k in ap answered p.1 ∙ ap (λ (x : Refusal). refusal (refusal_number x)) p.2

module _ (s t out m : List ℕ) where
  gate_stops : (c : Call) (n : ℕ) → n ≡ gate_number s t out m → 0 < n → lent_step s t out m c ≡ refuses n
  gate_stops c zero e h = absurd (omega (arith, h))
  gate_stops c (suc n) e h = gate_refuses s t out m c n (sym e)

  -- refusals 1 to 4 of a call
  pub gate_served : (c : Call) (n : ℕ) (a : Answer) → n ≡ gate_number s t out m → 0 < n → a ≡ refusal n
      → Served s (lent_step s t out m c) a (memory t out m) (memory t out m)
  gate_served c n a e h k = refused_as s (lent_step s t out m c) n a (memory t out m) k (gate_stops c n e h)

  -- the same, where the call passes the gate's refusal on
  pub gate_passed_on : (c : Call) (why : Refusal) (r : Result Answer Refusal) → refusal_number why ≡ gate_number s t out m → IsErrAnd r (λ e. e ≡ why)
      → Served s (lent_step s t out m c) (answered r) (memory t out m) (memory t out m)
  gate_passed_on c why r e k = gate_served c (refusal_number why) (answered r) e (above_0 why) (answered-why why r k)

  start_stops : (n : ℕ) → n ≡ start_number s out m → 0 < n → lent_start s t out m ≡ refuses n
  start_stops zero e h = absurd (omega (arith, h))
  start_stops (suc n) e h = start_refuses s out m t n (sym e)

  -- refusals 1 to 3 of a start
  pub start_refused : (n : ℕ) (a : Answer) → n ≡ start_number s out m → 0 < n → a ≡ refusal n
      → Served s (lent_start s t out m) a (memory t out m) (memory t out m)
  start_refused n a e h k = refused_as s (lent_start s t out m) n a (memory t out m) k (start_stops n e h)

  pub start_passed_on : (why : Refusal) (r : Result Answer Refusal) → refusal_number why ≡ start_number s out m → IsErrAnd r (λ e. e ≡ why)
      → Served s (lent_start s t out m) (answered r) (memory t out m) (memory t out m)
  start_passed_on why r e k = start_refused (refusal_number why) (answered r) e (above_0 why) (answered-why why r k)

  -- "A new table holds all rows free and all meters 0."
  pub start_done : (a : Answer) (n : ℕ) (table output : List ℕ) → Lendable s out m → length t ≡ table_size → table ≡ replicate (length t) 0 → a ≡ done no_row 0 n
      → Wrote (sheet_of (entries_of [] [])) out output n → Served s (lent_start s t out m) a (memory t out m) (memory table output m)
  start_done a n table output p l z k w =
      subst (λ (x : Answer). Served s (lent_start s t out m) x (memory t out m) (memory table output m)) (sym k)
      (served-did s (lent_start s t out m) (started (lent_table s t m)) t out m table output m n p.sheet (starts s out m p t)
      (subst (λ (x : List ℕ). Left s (started (lent_table s t m)) m x m) (sym (z ∙ ap (λ (x : ℕ). replicate x 0) l))
      (record { means = zero-means s t m; whole = zero-whole; long = length-replicate {A = ℕ} table_size 0; wide = p.assembling; past = refl }))
      w)

-- A history of the core's calls is the model's history.
-- Assumes nothing.
use Prim.Native.Nat.{ℕ, zero, suc, ◌+◌, ◌<◌}
use mathlib.Core.Path.{◌≡◌, refl, ap, ap₂, ◌∙◌, subst}
use mathlib.Core.Bool.{Bool, true, false}
use mathlib.Core.List.{List}
use native.Mathlib.Omega.{arith}
use lib.Dec.{eqb, leb}
use lib.ListN.{length}
use Rattle.octets.specs.Choice.{both, either, one, unless}
use Rattle.sheet.specs.Sheet.{most_farms}
use Rattle.sheet.specs.Test.{good_sheet}
use Rattle.model.specs.Move.{Held}
use Rattle.model.specs.Table.{slot, Table, least_output, assembling_size, Call, Outcome, refuses, did, if_lent, good_table, whose, called, step, number_of, table_of}
use Rattle.model.specs.History.{Made, fresh, step_of, run}
use Rattle.model.specs.Words.{is_tick, is_loss, ticks_in, cut_in}
use Rattle.model.proofs.RuleKept.{renewed-fresh}
use Rattle.lent.specs.declared.Answer.{Answer}
use Rattle.table.specs.Block.{farm_of}
use Rattle.lent.specs.Lent.{block, held_at, whole_table, lent_table, lent_of, lent_step, lent_start}
use Rattle.lent.specs.Gate.{start_number, Lendable}
use Rattle.lent.specs.Served.{whole_after, Memory, Served, CallServed}
use Rattle.lent.proofs.LentLaws.{slot_is}
use Rattle.lent.proofs.GateLaws.{started, start_refuses, start_passes, starts}
use Rattle.host.specs.Calls.{made, Calls, none, more, Began, rooms_in, ticks_of, lost_of}

-- ---- one call

-- the farm that a block means is the slot of the model's table
pub farm_in : (s u n : List ℕ) (f : ℕ) → f < most_farms → (slot (lent_table s u n) f).farm ≡ farm_of (block u f)
unfolding held_at
farm_in s u n f h = ap (λ (x : Held). x.farm) (slot_is s u n f h)

twice : (a b c : Bool) (o : Outcome)
    → unless a (refuses 1) (unless b (refuses 2) (unless c (refuses 3) (unless a (refuses 1) (unless b (refuses 2) (unless c (refuses 3) o)))))
    ≡ unless a (refuses 1) (unless b (refuses 2) (unless c (refuses 3) o))
twice false b c o = refl
twice true false c o = refl
twice true true false o = refl
twice true true true o = refl

-- bytes that are those of a table: a call on them is the model's
pub lent-step : (s t out m : List ℕ) (c : Call) → whole_table t ≡ true → lent_step s t out m c ≡ step_of s (lent_table s t m) (made out m c)
unfolding lent_step step
lent-step s t out m c w =
    ap (λ b. if_lent s (lent_of out m) (unless b (refuses 4) (step s (lent_of out m) (lent_table s t m) c))) w
    ∙ twice (good_sheet s) (leb least_output (length out)) (eqb (length m) assembling_size)
    (unless (good_table s (lent_table s t m)) (refuses 4) (called s (lent_table s t m) (whose s c)))

after-whole : (t : List ℕ) (o : Outcome) → whole_table t ≡ true → whole_after t o ≡ true
after-whole t (refuses n) w = w
after-whole t (did d) w = refl

module _ {s : List ℕ} (c : Call) {a : Answer} {before after : Memory} (x : CallServed s c a before after) (w : whole_table before.table ≡ true) where
  abbrev asked : Made
  asked = made before.output before.assembling c

  abbrev was : Table
  was = lent_table s before.table before.assembling

  -- what the rules say of the call is what came of it
  pub call-is : Served s (step_of s (lent_table s before.table before.assembling) (made before.output before.assembling c)) a before after
  call-is = subst (λ (o : Outcome). Served s o a before after) (lent-step s before.table before.output before.assembling c w) x

  pub call-means : lent_table s after.table after.assembling ≡ table_of was (step_of s was asked)
  call-means = call-is.means

  pub call-whole : whole_table after.table ≡ true
  call-whole = x.whole ∙ after-whole before.table (lent_step s before.table before.output before.assembling c) w

-- ---- many

-- THE TABLE THAT A HISTORY OF CALLS LEAVES IS THE MODEL'S
pub calls_mean : {s t m : List ℕ} {ms : List Made} {u n : List ℕ} → whole_table t ≡ true → Calls s t m ms u n
    → (lent_table s u n ≡ run s (lent_table s t m) ms) × (whole_table u ≡ true)
unfolding run
calls_mean w (none t m) = (refl, w)
calls_mean {s} w (more t m out c a after ms u n x rest) =
    let k = calls_mean (call-whole c x w) rest in
    (k.0 ∙ ap (λ (y : Table). run s y ms) (call-means c x w), k.1)

-- the ticks and the losses that the answers tell are those of the rules
pub ticks_are : {s t m : List ℕ} {ms : List Made} {u n : List ℕ} → whole_table t ≡ true → (h : Calls s t m ms u n) → ticks_of h ≡ ticks_in s (lent_table s t m) ms
unfolding ticks_of ticks_in
ticks_are w (none t m) = refl
ticks_are {s} w (more t m out c a after ms u n x rest) =
    ap₂ (λ (k r : ℕ). one (both (is_tick c) (eqb k 0)) + r) (call-is c x w).number
    (ticks_are (call-whole c x w) rest ∙ ap (λ (y : Table). ticks_in s y ms) (call-means c x w))

pub losses_are : (row farm : ℕ) {s t m : List ℕ} {ms : List Made} {u n : List ℕ} → whole_table t ≡ true → (h : Calls s t m ms u n)
    → lost_of row farm h ≡ cut_in row farm s (lent_table s t m) ms
unfolding lost_of cut_in
losses_are row farm w (none t m) = refl
losses_are row farm {s} w (more t m out c a after ms u n x rest) =
    ap₂ (λ (k : ℕ) (r : Bool). either (both (is_loss row farm c) (eqb k 0)) r) (call-is c x w).number
    (losses_are row farm (call-whole c x w) rest ∙ ap (λ (y : Table). cut_in row farm s y ms) (call-means c x w))

-- ---- from a start on

module _ {s t m : List ℕ} (b : Began s t m) where
  -- the rooms that were lent to the start
  abbrev pub rooms : List (List (List ℕ))
  rooms = rooms_in s b.lent.table b.lent.assembling

  none-refused : (n : ℕ) → start_number s b.lent.output b.lent.assembling ≡ suc n → ⊥
  none-refused n e =
      let k = ap number_of (start_refuses s b.lent.output b.lent.assembling b.lent.table n e) in
      omega (arith, k, b.served.number, b.accepted)

  start_zero : (n : ℕ) → start_number s b.lent.output b.lent.assembling ≡ n → start_number s b.lent.output b.lent.assembling ≡ 0
  start_zero zero e = e
  start_zero (suc n) e = absurd (none-refused n e)

  pub began_lendable : Lendable s b.lent.output b.lent.assembling
  began_lendable = start_passes s b.lent.output b.lent.assembling (start_zero (start_number s b.lent.output b.lent.assembling) refl)

  is-did : lent_start s b.lent.table b.lent.output b.lent.assembling ≡ did (started (lent_table s b.lent.table b.lent.assembling))
  is-did = starts s b.lent.output b.lent.assembling began_lendable b.lent.table

  pub began_fresh : lent_table s t m ≡ fresh rooms
  began_fresh =
      b.served.means
      ∙ ap (table_of (lent_table s b.lent.table b.lent.assembling)) is-did
      ∙ renewed-fresh (lent_table s b.lent.table b.lent.assembling)

  pub began_whole : whole_table t ≡ true
  began_whole = b.served.whole ∙ ap (whole_after b.lent.table) is-did

  -- A HISTORY OF CALLS FROM A START ON IS THE MODEL'S HISTORY FROM A FRESH TABLE ON
  pub history_means : {ms : List Made} {u n : List ℕ} → Calls s t m ms u n → lent_table s u n ≡ run s (fresh rooms) ms
  history_means {ms} h = (calls_mean began_whole h).0 ∙ ap (λ (y : Table). run s y ms) began_fresh

  pub history_whole : {ms : List Made} {u n : List ℕ} → Calls s t m ms u n → whole_table u ≡ true
  history_whole h = (calls_mean began_whole h).1

-- What one farm gets of a history of calls: the words of demand 3's "give that farm the same answers, replies and meters".
-- Assumes nothing: these are definitions.
use Rattle.std.specs.Prelude.{ℕ, ◌+◌, ◌≡◌, Bool, true, false, List, [], ◌∷◌, leb, ltb}
use Rattle.std.proofs.Math.Option.{Option}
use Rattle.octets.specs.Choice.{pick, both}
use Rattle.kinds.specs.declared.Meters.{Meters}
use Rattle.outsheet.specs.Sheet.{Entry}
use Rattle.model.specs.FarmSheet.{FarmSheet, slot_sheet}
use Rattle.model.specs.Table.{Call, Whose, nobodys, farms, everyones, whose}
use Rattle.model.specs.History.{Made, keep, counts_by, seen}
use Rattle.table.specs.Block.{farm_of}
use Rattle.lent.specs.declared.Answer.{Answer}
use Rattle.lent.specs.Lent.{block}
use Rattle.lent.specs.Served.{Memory, memory}
use Rattle.host.specs.Wrote.{Wrote}
use Rattle.host.specs.Calls.{made, Calls, none, more}

-- ---- one call

-- "Of a tick, a farm's replies are the entries on its rows."; of a call of its own they are all
abbrev pub on_its_row : FarmSheet → Entry → Bool
on_its_row own e = both (leb own.first e.row) (ltb e.row (own.first + own.rows))

abbrev pub farm_entries : FarmSheet → Whose → List Entry → List Entry
farm_entries own (nobodys n) es = es
farm_entries own (farms f c) es = es
farm_entries own everyones es = keep (on_its_row own) es

-- "answers, replies and meters"
pub record Got : Type 0 where
  pub number : ℕ
  pub row : ℕ
  pub taken : ℕ
  pub entries : List Entry
  pub meters : Meters

-- farm g gets this of a call: the answer, its entries of the sheet that the call wrote (none where it was refused), its meters afterwards
pub record Gets (s : List ℕ) (g : ℕ) (c : Call) (a : Answer) (before after : Memory) (x : Got) : Type 0 where
  pub number : x.number ≡ a.number
  pub row : x.row ≡ a.row
  pub taken : x.taken ≡ a.taken
  pub sheet : List Entry
  pub wrote : a.number ≡ 0 → Wrote sheet a before after
  pub refused : (a.number ≡ 0 → ⊥) → sheet ≡ []
  pub entries : x.entries ≡ farm_entries (slot_sheet s g) (whose s c) sheet
  pub meters : x.meters ≡ (farm_of (block after.table g)).meters

-- ---- a history

-- the call is one of farm g's, or a tick that is accepted
abbrev pub shares : List ℕ → ℕ → Call → Answer → Bool
shares s g c a = counts_by g (whose s c) a.number

-- "one farm's calls and .. the accepted ticks, in their order": each with what was lent and what it named; of a tick, only that it was
unfoldable pub shares_in : (s : List ℕ) (g : ℕ) {t m : List ℕ} {ms : List Made} {u n : List ℕ} → Calls s t m ms u n → List (Option Made)
shares_in s g (none t m) = []
shares_in s g (more t m out c a after ms u n x rest) = pick (shares s g c a) (seen s (made out m c) ∷ shares_in s g rest) (shares_in s g rest)

abbrev pub IfSo : Bool → Type 0 → Type 0 → Type 0
IfSo true A B = A
IfSo false A B = B

abbrev pub FirstThen : List Got → (Got → List Got → Type 0) → Type 0
FirstThen [] P = ⊥
FirstThen (x ∷ l) P = P x l

-- the farm gets the list l of these calls, one thing of each
unfoldable pub GetsIn : (s : List ℕ) (g : ℕ) {t m : List ℕ} {ms : List Made} {u n : List ℕ} → Calls s t m ms u n → List Got → Type 0
GetsIn s g (none t m) l = l ≡ []
GetsIn s g (more t m out c a after ms u n x rest) l =
    IfSo (shares s g c a) (FirstThen l (λ (y : Got) (k : List Got). Gets s g c a (memory t out m) after y × GetsIn s g rest k)) (GetsIn s g rest l)

-- some list is such
pub record Some (P : List Got → Type 0) : Type 0 where
  pub list : List Got
  pub holds : P list

-- What a farm gets of a history of calls is what the rules have for it, call by call.
-- Assumes nothing.
use Prim.Native.Nat.{ℕ, ◌<◌}
use mathlib.Core.Path.{◌≡◌, refl, sym, ap, ap₂, ◌∙◌}
use mathlib.Core.Bool.{Bool, true, false}
use mathlib.Core.List.{List, [], ◌∷◌, map}
use mathlib.Core.Option.{Option}
use native.Mathlib.Omega.{arith}
use Rattle.octets.specs.Choice.{pick}
use Rattle.kinds.specs.declared.Item.{Item}
use Rattle.sheet.specs.Sheet.{most_farms}
use Rattle.outsheet.specs.Sheet.{Entry}
use Rattle.outsheet.specs.Replies.{entry_of, entries_of}
use Rattle.model.specs.FarmSheet.{FarmSheet, slot_sheet}
use Rattle.model.specs.Table.{Table, slot, Call, Whose, nobodys, farms, everyones, whose, Outcome, refuses, did, items_of, long_of, table_of}
use Rattle.model.specs.History.{Made, Has, keep, on_row, replies_by, counts_by, seen, has, counts, calls_of, has_of, step_of}
use Rattle.table.specs.Block.{farm_of}
use Rattle.lent.specs.declared.Answer.{Answer}
use Rattle.lent.specs.Lent.{whole_table, block, lent_table}
use Rattle.lent.specs.Served.{Memory, memory, Served, CallServed}
use Rattle.host.specs.Wrote.{Wrote}
use Rattle.host.specs.Calls.{made, Calls, none, more}
use Rattle.host.specs.Gets.{on_its_row, farm_entries, Got, Gets, shares, shares_in, IfSo, FirstThen, GetsIn, Some}
use Rattle.host.proofs.SheetOnce.{wrote-once}
use Rattle.host.proofs.OutcomeLaws.{Listed, step_listed, did-wrote}
use Rattle.host.proofs.HistoryLaws.{call-is, call-means, call-whole, farm_in}

-- what the rules have of a call, as entries of its sheet
abbrev pub got_by : Has → Got
got_by h = record { number = h.number; row = h.row; taken = h.took; entries = entries_of h.long h.replies; meters = h.meters }

-- ---- the farm's entries are those of its replies

kept-entries : (own : FarmSheet) (long : List ℕ) (items : List Item) → keep (on_its_row own) (entries_of long items) ≡ entries_of long (keep (on_row own) items)
kept-entries own long [] = refl
kept-entries own long (it ∷ items) = by (on_row own it) (kept-entries own long items)
  where
    by : (b : Bool) → keep (on_its_row own) (entries_of long items) ≡ entries_of long (keep (on_row own) items)
        → pick b (entry_of long it ∷ keep (on_its_row own) (entries_of long items)) (keep (on_its_row own) (entries_of long items))
        ≡ entries_of long (pick b (it ∷ keep (on_row own) items) (keep (on_row own) items))
    by true k = ap (λ (l : List Entry). entry_of long it ∷ l) k
    by false k = k

farm-entries : (own : FarmSheet) (w : Whose) (long : List ℕ) (items : List Item) → farm_entries own w (entries_of long items) ≡ entries_of long (replies_by own w items)
farm-entries own (nobodys n) long items = refl
farm-entries own (farms f c) long items = refl
farm-entries own everyones long items = kept-entries own long items

-- ---- the sheet of an outcome

module _ (s : List ℕ) {a : Answer} {before after : Memory} where
  refused-number : (n : ℕ) → Listed (refuses n) → Served s (refuses n) a before after → a.number ≡ 0 → ⊥
  refused-number n k x e = omega (arith, k, x.number, e)

  sheet-is : (o : Outcome) → Listed o → Served s o a before after → (es : List Entry) → (a.number ≡ 0 → Wrote es a before after)
      → ((a.number ≡ 0 → ⊥) → es ≡ []) → es ≡ entries_of (long_of o) (items_of o)
  sheet-is (refuses n) k x es w r = r (refused-number n k x)
  sheet-is (did d) k x es w r = wrote-once es (entries_of d.long d.items) (w x.number) (did-wrote s (did d) d x refl)

  sheet-wrote : (o : Outcome) → Listed o → Served s o a before after → a.number ≡ 0 → Wrote (entries_of (long_of o) (items_of o)) a before after
  sheet-wrote (refuses n) k x e = absurd (refused-number n k x e)
  sheet-wrote (did d) k x e = did-wrote s (did d) d x refl

  sheet-none : (o : Outcome) → Served s o a before after → (a.number ≡ 0 → ⊥) → entries_of (long_of o) (items_of o) ≡ []
  sheet-none (refuses n) x r = refl
  sheet-none (did d) x r = absurd (r x.number)

-- ---- one call

module _ {s : List ℕ} (g : ℕ) (i : g < most_farms) (c : Call) {a : Answer} {before after : Memory} (x : CallServed s c a before after)
    (w : whole_table before.table ≡ true) where
  abbrev was : Table
  was = lent_table s before.table before.assembling

  abbrev asked : Made
  asked = made before.output before.assembling c

  listed : Listed (step_of s was asked)
  listed = step_listed s asked.lent was c

  meters_are : (farm_of (block after.table g)).meters ≡ (slot (table_of was (step_of s was asked)) g).farm.meters
  meters_are =
      sym (ap (λ y. y.meters) (farm_in s after.table after.assembling g i)) ∙ ap (λ (y : Table). (slot y g).farm.meters) (call-means c x w)

  same_count : shares s g c a ≡ counts s g was asked
  unfolding counts
  same_count = ap (counts_by g (whose s c)) (call-is c x w).number

  -- whatever the farm gets of it is what the rules have
  got_is : (y : Got) → Gets s g c a before after y → y ≡ got_by (has s g was asked)
  unfolding has
  got_is y k =
      λ j. record {
        number = (k.number ∙ (call-is c x w).number) j;
        row = (k.row ∙ (call-is c x w).row) j;
        taken = (k.taken ∙ (call-is c x w).taken) j;
        entries =
            (k.entries
            ∙ ap (farm_entries (slot_sheet s g) (whose s c)) (sheet-is s (step_of s was asked) listed (call-is c x w) k.sheet k.wrote k.refused)
            ∙ farm-entries (slot_sheet s g) (whose s c) (long_of (step_of s was asked)) (items_of (step_of s was asked)))
            j;
        meters = (k.meters ∙ meters_are) j;
      }

  -- and it gets that
  gets_that : Gets s g c a before after (got_by (has s g was asked))
  unfolding has
  gets_that =
      record {
        number = sym (call-is c x w).number;
        row = sym (call-is c x w).row;
        taken = sym (call-is c x w).taken;
        sheet = entries_of (long_of (step_of s was asked)) (items_of (step_of s was asked));
        wrote = sheet-wrote s (step_of s was asked) listed (call-is c x w);
        refused = sheet-none s (step_of s was asked) (call-is c x w);
        entries = sym (farm-entries (slot_sheet s g) (whose s c) (long_of (step_of s was asked)) (items_of (step_of s was asked)));
        meters = sym meters_are;
      }

-- ---- a history

module _ (s : List ℕ) (g : ℕ) (i : g < most_farms) where
  -- the calls that count are those that the rules count
  pub shares_are : {t m : List ℕ} {ms : List Made} {u n : List ℕ} → whole_table t ≡ true → (h : Calls s t m ms u n)
      → shares_in s g h ≡ calls_of s g (lent_table s t m) ms
  unfolding shares_in calls_of
  shares_are w (none t m) = refl
  shares_are w (more t m out c a after ms u n x rest) =
      ap₂ (λ (b : Bool) (l : List (Option Made)). pick b (seen s (made out m c) ∷ l) l) (same_count g i c x w)
      (shares_are (call-whole c x w) rest ∙ ap (λ (y : Table). calls_of s g y ms) (call-means c x w))

  got_first : (b : Bool) (A : Got → Type 0) (B : List Got → Type 0) (y : Got) (k l : List Got) → ((z : Got) → A z → z ≡ y) → ((z : List Got) → B z → z ≡ k)
      → IfSo b (FirstThen l (λ (z : Got) (r : List Got). A z × B r)) (B l) → l ≡ pick b (y ∷ k) k
  got_first true A B y k [] f h x = absurd x
  got_first true A B y k (z ∷ l) f h x = ap₂ (λ (p : Got) (q : List Got). p ∷ q) (f z x.0) (h l x.1)
  got_first false A B y k l f h x = h l x

  map-pick : (b : Bool) (x : Has) (l : List Has) → map got_by (pick b (x ∷ l) l) ≡ pick b (got_by x ∷ map got_by l) (map got_by l)
  map-pick true x l = refl
  map-pick false x l = refl

  -- what the rules have of a call, and of those behind it
  abbrev first : List ℕ → List ℕ → List ℕ → Call → Has
  first t m out c = has s g (lent_table s t m) (made out m c)

  abbrev others : List ℕ → List ℕ → List ℕ → Call → List Made → List Has
  others t m out c ms = has_of s g (table_of (lent_table s t m) (step_of s (lent_table s t m) (made out m c))) ms

  -- WHAT THE FARM GETS is what the rules have for it
  pub gets_is : {t m : List ℕ} {ms : List Made} {u n : List ℕ} → whole_table t ≡ true → (h : Calls s t m ms u n) (l : List Got) → GetsIn s g h l
      → l ≡ map got_by (has_of s g (lent_table s t m) ms)
  unfolding GetsIn has_of
  gets_is w (none t m) l k = k
  gets_is w (more t m out c a after ms u n x rest) l k =
      got_first (shares s g c a) (Gets s g c a (memory t out m) after) (GetsIn s g rest) (got_by (first t m out c)) (map got_by (others t m out c ms)) l
      (got_is g i c x w) (λ z y. gets_is (call-whole c x w) rest z y ∙ ap (λ (y : Table). map got_by (has_of s g y ms)) (call-means c x w)) k
      ∙ sym (map-pick (shares s g c a) (first t m out c) (others t m out c ms))
      ∙ ap (λ (b : Bool). map got_by (pick b (first t m out c ∷ others t m out c ms) (others t m out c ms))) (same_count g i c x w)

  first_got : (b : Bool) (A : Got → Type 0) (B : List Got → Type 0) (y : Got) (k : List Got) → A y → B k
      → IfSo b (FirstThen (pick b (y ∷ k) k) (λ (z : Got) (r : List Got). A z × B r)) (B (pick b (y ∷ k) k))
  first_got true A B y k p q = (p, q)
  first_got false A B y k p q = q

  -- and it does get it
  pub gets_some : {t m : List ℕ} {ms : List Made} {u n : List ℕ} → whole_table t ≡ true → (h : Calls s t m ms u n) → Some (GetsIn s g h)
  unfolding GetsIn
  gets_some w (none t m) = record { list = []; holds = refl }
  gets_some w (more t m out c a after ms u n x rest) =
      let r = gets_some (call-whole c x w) rest in
      let y = got_by (first t m out c) in
      record {
        list = pick (shares s g c a) (y ∷ r.list) r.list;
        holds = first_got (shares s g c a) (Gets s g c a (memory t out m) after) (GetsIn s g rest) y r.list (gets_that g i c x w) r.holds;
      }

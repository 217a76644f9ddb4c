-- The places of a row's byte stream stay possible, whatever bytes come.
-- Assumes nothing.
use Rattle.std.proofs.Common.{Result, Ok, Err}
use Prim.Native.Nat.{ℕ, ◌+◌, ◌≤◌, ◌<◌}
use mathlib.Core.Path.{◌≡◌, refl, sym, ap, ◌∙◌}
use mathlib.Core.Bool.{Bool, true, false, not, true≢false}
use mathlib.Core.Logic.{◌⊎◌, inl, inr}
use mathlib.Core.List.{List, [], ◌∷◌}
use native.Mathlib.Omega.{arith}
use lib.Dec.{eqb, leb, ltb}
use lib.ListN.{set, length}
use borrow.Author.Tests.{leb-true, ltb-true, eqb-true, eqb-false, lt-leb}
use Rattle.octets.specs.Choice.{either}
use Rattle.octets.specs.Search.{some, all}
use Rattle.octets.proofs.ChoiceLaws.{both_left, both_right}
use Rattle.kinds.specs.declared.Fault.{Fault}
use Rattle.kinds.specs.declared.Fault.TheVariants.{Pattern, UnknownType, TooLong, WrongLength}
use Rattle.kinds.specs.declared.Place.{Place}
use Rattle.kinds.specs.declared.Place.TheVariants.{Header, Reading, Skipping}
use Rattle.wire.specs.declared.header.Header.{Header as Head}
use Rattle.types.specs.declared.Kind.{Kind}
use Rattle.types.specs.Types.{types, tcp, known_on, length_fits, is_of_length}
use Rattle.wire.specs.Header.{header_size, header_at, verdict_of, closes, right_pattern, most_payload, passed}
use Rattle.model.specs.Stream.{Stream, Fed, more, ends, after_wrong, judged, feed_at, feed, takes_by, takes}
use Rattle.model.specs.Rule.{PossibleAt}
use Rattle.model.proofs.Cases.{pick_case, unless_case, split}

-- ---- no type of the table allows an empty payload on TCP

none_of : (p q : Kind → Bool) → ((k : Kind) → q k ≡ true → p k ≡ false) → (l : List Kind) → all q l ≡ true → some p l ≡ false
unfolding some all
none_of p q h [] e = refl
none_of p q h (k ∷ l) e = rw (h k (both_left (q k) (all q l) e)) (none_of p q h l (both_right (q k) (all q l) e))

-- a line of the table that is of another port, or asks for a byte at least
abbrev fills : Kind → Bool
fills k = either (not (eqb k.port tcp)) (leb 1 k.least)

fills_not : (kind : ℕ) (k : Kind) → fills k ≡ true → is_of_length tcp kind 0 k ≡ false
fills_not kind k e =
    split (eqb k.port tcp)
    (λ t. split (eqb k.kind kind)
    (λ u. let m : 1 ≤ k.least = leb-true 1 k.least (rw t at e) in rw (t, u, lt-leb k.least 0 (omega arith)) refl)
    (λ u. rw (t, u) refl))
    (λ t. rw t refl)

pub never_empty : (kind : ℕ) → length_fits tcp kind 0 ≡ false
unfolding length_fits types all
never_empty kind = none_of (is_of_length tcp kind 0) fills (fills_not kind) types refl

-- so a header that passes announces a byte at least
pub passes-some : (h : Head) → verdict_of h ≡ passed → 0 < h.length
unfolding verdict_of
passes-some h e =
    split (eqb h.length 0)
    (λ z. absurd (never e z))
    (λ z. omega (arith, eqb-false h.length 0 z))
  where
    wrong-not : (fault : Fault) → ◌≡◌ {A = Result Unit Fault} (Err fault) passed → ⊥
    wrong-not fault q = let z : ◌≡◌ {A = ℕ} 0 1 = cc in omega arith

    never : verdict_of h ≡ passed → eqb h.length 0 ≡ true → ⊥
    never q z =
        unless_case (λ v. v ≡ passed → ⊥) (right_pattern h.version h.inverse) _ _ (λ _. wrong-not Pattern)
        (λ _. unless_case (λ v. v ≡ passed → ⊥) (known_on tcp h.kind) _ _ (λ _. wrong-not UnknownType)
        (λ _. unless_case (λ v. v ≡ passed → ⊥) (leb h.length most_payload) _ _ (λ _. wrong-not TooLong)
        (λ _. unless_case (λ v. v ≡ passed → ⊥) (length_fits tcp h.kind h.length) _ _ (λ _. wrong-not WrongLength)
        (λ t _. true≢false (sym t ∙ ap (length_fits tcp h.kind) (eqb-true h.length 0 z) ∙ never_empty h.kind)))))
        q

-- ---- one byte, then all of them

abbrev pub PossibleIn : Stream → Type 0
PossibleIn s = PossibleAt s.place s.head

abbrev FedWell : Fed → Type 0
FedWell (more s) = PossibleIn s
FedWell (ends e s) = PossibleIn s

after-wrong : (fault : Fault) (head room : List ℕ) → verdict_of (header_at head 0) ≡ Err fault → PossibleIn (after_wrong fault head room)
after-wrong fault head room e =
    pick_case PossibleIn (closes fault) _ _ (λ _. omega arith)
    (λ c. pick_case PossibleIn (eqb (header_at head 0).length 0) _ _ (λ _. omega arith)
    (λ z. (omega (arith, eqb-false (header_at head 0).length 0 z), by fault c e)))
  where
    by : (x : Fault) → closes x ≡ false → verdict_of (header_at head 0) ≡ Err x
        → (verdict_of (header_at head 0) ≡ Err UnknownType) ⊎ (verdict_of (header_at head 0) ≡ Err TooLong)
    by Pattern c e = absurd (true≢false c)
    by UnknownType c e = inl e
    by TooLong c e = inr e
    by WrongLength c e = absurd (true≢false c)

judged_well : (v : Result Unit Fault) (head room : List ℕ) → verdict_of (header_at head 0) ≡ v → FedWell (judged v head room)
judged_well (Ok tt) head room e = (passes-some (header_at head 0) e, e)
judged_well (Err fault) head room e = after-wrong fault head room e

feed_well : (p : Place) (head room : List ℕ) (byte : ℕ) → PossibleAt p head → FedWell (feed_at p head room byte)
feed_well (Header n) head room byte k =
    pick_case FedWell (ltb (n + 1) header_size) _ _ (λ e. ltb-true (n + 1) header_size e)
    (λ _. judged_well (verdict_of (header_at (set head n byte) 0)) (set head n byte) room refl)
feed_well (Reading n) head room byte k =
    pick_case FedWell (ltb (n + 1) (header_at head 0).length) _ _ (λ e. (ltb-true (n + 1) (header_at head 0).length e, k.1)) (λ _. omega arith)
feed_well (Skipping n) head room byte k =
    pick_case FedWell (ltb (n + 1) (header_at head 0).length) _ _ (λ e. (ltb-true (n + 1) (header_at head 0).length e, k.1)) (λ _. omega arith)

-- whatever a bytes call takes, the stream is at a possible place then
pub takes_well : (s : Stream) (input : List ℕ) → PossibleIn s → PossibleIn (takes s input).stream
unfolding takes feed
takes_well s [] k = k
takes_well s (byte ∷ bytes) k = by (feed_at s.place s.head s.room byte) (feed_well s.place s.head s.room byte k) (λ t. takes_well t bytes)
  where
    by : (d : Fed) → FedWell d → ((t : Stream) → PossibleIn t → PossibleIn (takes t bytes).stream) → PossibleIn (takes_by d (λ t. takes t bytes)).stream
    by (more t) q ih = ih t q
    by (ends e t) q ih = q

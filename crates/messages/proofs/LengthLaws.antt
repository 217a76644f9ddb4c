-- A message that a bytes call finishes has a right length: its header passed. So its payload holds all that the core reads of it.
-- Assumes nothing.
use Rattle.std.proofs.Common.{Result, Ok, Err}
use Rattle.kinds.specs.declared.Fault.{Fault}
use Prim.Native.Nat.{ℕ, ◌+◌, ◌≤◌}
use mathlib.Core.Path.{◌≡◌, refl, sym, ap, subst, ◌∙◌}
use mathlib.Core.Bool.{true, false≢true}
use mathlib.Core.List.{List, [], ◌∷◌}
use native.Mathlib.Omega.{arith}
use lib.Dec.{leb, ltb}
use lib.ListN.{length, take, set}
use lib.Seq.{length-take-le}
use borrow.Author.Tests.{leb-true, ltb-true}
use Rattle.octets.specs.Search.{some}
use Rattle.kinds.specs.declared.Event.{Event as Ours}
use Rattle.kinds.specs.declared.Event.TheVariants.{Finished}
use Rattle.kinds.specs.declared.Place.{Place}
use Rattle.kinds.specs.declared.Place.TheVariants.{Header, Reading, Skipping}
use Rattle.types.specs.Types.{types, tcp, length_fits}
use Rattle.wire.specs.Header.{header_size, most_payload, header_at, verdict_of}
use Rattle.wire.proofs.HeaderLaws.{passes-all}
use Rattle.model.specs.Stream.{Stream, Fed, more, ends, judged, feed_at, feed, takes_by, takes}
use Rattle.model.specs.Rule.{PossibleAt}
use Rattle.model.proofs.Cases.{pick_case, split}
use Rattle.model.proofs.SoundStream.{PossibleIn, passes-some}
use Rattle.stream.specs.Took.{event_of}
use Rattle.messages.specs.Length.{RightLength, EndsWell}

-- ---- the least length of what is read

-- "0005 (7 or 11)"
request_fits : (n : ℕ) → length_fits tcp 0x0005 n ≡ true → 7 ≤ n
unfolding length_fits types some
request_fits n e =
    split (leb 7 n) (λ t. leb-true 7 n t)
    (λ t. split (leb 11 n) (λ u. omega (arith, leb-true 11 n u)) (λ u. absurd (false≢true (rw (t, u) at e))))

-- "0008 (2)"
response-fits : (n : ℕ) → length_fits tcp 0x0008 n ≡ true → 2 ≤ n
unfolding length_fits types some
response-fits n e = split (leb 2 n) (λ t. leb-true 2 n t) (λ t. absurd (false≢true (rw t at e)))

-- "8001 (5 or more; ours)"
diagnostic-fits : (n : ℕ) → length_fits tcp 0x8001 n ≡ true → 5 ≤ n
unfolding length_fits types some
diagnostic-fits n e = split (leb 5 n) (λ t. leb-true 5 n t) (λ t. absurd (false≢true (rw t at e)))

module _ (kind n : ℕ) (r : RightLength kind n) where
  pub request_long : kind ≡ 0x0005 → 3 ≤ n
  request_long e = omega (arith, request_fits n (ap (λ (k : ℕ). length_fits tcp k n) (sym e) ∙ r.fits))

  pub response-long : kind ≡ 0x0008 → 2 ≤ n
  response-long e = response-fits n (ap (λ (k : ℕ). length_fits tcp k n) (sym e) ∙ r.fits)

  pub diagnostic-long : kind ≡ 0x8001 → 4 ≤ n
  diagnostic-long e = omega (arith, diagnostic-fits n (ap (λ (k : ℕ). length_fits tcp k n) (sym e) ∙ r.fits))

  -- the payload stands at the front of the row's room
  pub payload-length : (room : List ℕ) → length room ≡ most_payload → length (take n room) ≡ n
  payload-length room e = length-take-le n room (omega (arith, r.short))

-- what ended the call, as the code has it
pub finished-right : {e : Ours} {kind size : ℕ} → e ≡ Finished kind size → EndsWell (event_of e) → RightLength kind size
finished-right h w = subst (λ (x : Ours). EndsWell (event_of x)) h w

-- ---- one byte, then all of them

abbrev FedRight : Fed → Type 0
FedRight (more s) = PossibleIn s
FedRight (ends e s) = EndsWell e

judged-right : (v : Result Unit Fault) (head room : List ℕ) → verdict_of (header_at head 0) ≡ v → FedRight (judged v head room)
judged-right (Ok tt) head room e = (passes-some (header_at head 0) e, e)
judged-right (Err fault) head room e = tt

feed-right : (p : Place) (head room : List ℕ) (byte : ℕ) → PossibleAt p head → FedRight (feed_at p head room byte)
feed-right (Header n) head room byte k =
    pick_case FedRight (ltb (n + 1) header_size) _ _ (λ e. ltb-true (n + 1) header_size e)
    (λ _. judged-right (verdict_of (header_at (set head n byte) 0)) (set head n byte) room refl)
feed-right (Reading n) head room byte k =
    let h = passes-all (header_at head 0) k.1 in
    pick_case FedRight (ltb (n + 1) (header_at head 0).length) _ _ (λ e. (ltb-true (n + 1) (header_at head 0).length e, k.1))
    (λ _. record { short = h.short; fits = h.fits })
feed-right (Skipping n) head room byte k =
    pick_case FedRight (ltb (n + 1) (header_at head 0).length) _ _ (λ e. (ltb-true (n + 1) (header_at head 0).length e, k.1)) (λ _. tt)

-- whatever ends a bytes call from a possible place, a message that it finishes has a right length
pub takes-right : (s : Stream) (input : List ℕ) → PossibleIn s → EndsWell (takes s input).event
unfolding takes feed
takes-right s [] k = tt
takes-right s (byte ∷ bytes) k =
    by (feed_at s.place s.head s.room byte) (feed-right s.place s.head s.room byte k) (λ t. takes-right t bytes)
  where
    by : (d : Fed) → FedRight d → ((t : Stream) → PossibleIn t → EndsWell (takes t bytes).event) → EndsWell (takes_by d (λ t. takes t bytes)).event
    by (more t) q ih = ih t q
    by (ends e t) q ih = q

-- Rows stay tidy: what means nothing keeps its one value.
-- Assumes nothing.
use Rattle.std.proofs.Common.{Result, Ok, Err}
use Prim.Native.Nat.{ℕ, zero, suc, ◌+◌, ◌-◌, ◌<◌}
use mathlib.Core.Path.{◌≡◌, refl, sym, ap, ◌∙◌}
use mathlib.Core.Bool.{Bool, true, false, false≢true}
use mathlib.Core.List.{List, [], ◌∷◌, map}
use native.Mathlib.Numerals.{add-one}
use native.Mathlib.Omega.{arith}
use lib.Dec.{eqb, ltb}
use lib.ListN.{length, drop, set, replicate, length-set}
use borrow.Author.Tests.{ltb-true}
use Rattle.octets.specs.Choice.{pick}
use Rattle.kinds.specs.declared.RowState.{RowState}
use Rattle.kinds.specs.declared.RowState.TheVariants.{Free, Fresh, Waiting, Active}
use Rattle.kinds.specs.declared.Place.{Place}
use Rattle.kinds.specs.declared.Place.TheVariants.{Header, Reading, Skipping}
use Rattle.kinds.specs.declared.Row.{Row}
use Rattle.kinds.specs.declared.Fault.{Fault}
use Rattle.wire.specs.Header.{header_size, header_at, verdict_of, closes}
use Rattle.model.specs.Row.{no_head, row_of, free_row, row_at, is_free_state, is_free, older_state, older, heard_state}
use Rattle.model.specs.Bytes.{heard_row}
use Rattle.model.specs.Stream.{Stream, stream_of, rested, finished, skipped, Fed, more, ends, judged, after_wrong, header_byte, stored_in, feed_at, feed, takes_by, takes}
use Rattle.model.specs.Rule.{TidyAt, Tidy}
use Rattle.model.proofs.Cases.{pick_case}
use Rattle.model.proofs.Rows.{row-set, row-map}

-- ---- the eight header bytes

pub length-no_head : length no_head ≡ header_size
unfolding no_head
length-no_head = refl

rest-set : (l : List ℕ) (n b : ℕ) → drop (suc n) (set l n b) ≡ drop (suc n) l
rest-set [] n b = refl
rest-set (x ∷ l) zero b = refl
rest-set (x ∷ l) (suc n) b = rest-set l n b

rest_zeros : (l : List ℕ) (n k : ℕ) → drop n l ≡ replicate (suc k) 0 → drop (suc n) l ≡ replicate k 0
rest_zeros [] zero k e = absurd (let z : ◌≡◌ {A = ℕ} 0 1 = cc in omega arith)
rest_zeros [] (suc n) k e = absurd (let z : ◌≡◌ {A = ℕ} 0 1 = cc in omega arith)
rest_zeros (x ∷ l) zero k e = cc
rest_zeros (x ∷ l) (suc n) k e = rest_zeros l n k e

-- one header byte more is in hand
one_in : (head : List ℕ) (n b : ℕ) → n < header_size → drop n head ≡ replicate (header_size - n) 0
    → drop (n + 1) (set head n b) ≡ replicate (header_size - (n + 1)) 0
one_in head n b h e =
    let k : header_size - n ≡ suc (header_size - (n + 1)) = omega arith in
    ap (λ (m : ℕ). drop m (set head n b)) (add-one n)
    ∙ rest-set head n b
    ∙ rest_zeros head n (header_size - (n + 1)) (e ∙ ap (λ (m : ℕ). replicate m 0) k)

-- ---- the stream

pub record TidyStream (s : Stream) : Type 0 where
  pub eight : length s.head ≡ header_size
  pub unused : TidyAt s.place s.head

pub tidy-rested : (room : List ℕ) → TidyStream (rested room)
unfolding no_head
tidy-rested room = record { eight = length-no_head; unused = refl }

abbrev stream_in : Fed → Stream
stream_in (more s) = s
stream_in (ends e s) = s

tidy-wrong : (fault : Fault) (head room : List ℕ) → length head ≡ header_size → TidyStream (after_wrong fault head room)
tidy-wrong fault head room h = by (closes fault) (eqb (header_at head 0).length 0)
  where
    by : (a b : Bool) → TidyStream (pick a (rested room) (pick b (rested room) (stream_of (Skipping 0) head room)))
    by true b = tidy-rested room
    by false true = tidy-rested room
    by false false = record { eight = h; unused = tt }

tidy-judged : (v : Result Unit Fault) (head room : List ℕ) → length head ≡ header_size → TidyStream (stream_in (judged v head room))
tidy-judged (Ok tt) head room h = record { eight = h; unused = tt }
tidy-judged (Err fault) head room h = tidy-wrong fault head room h

module _ (b : ℕ) where
  tidy_header : (n : ℕ) (head room : List ℕ) → length head ≡ header_size → TidyAt (Header n) head → TidyStream (stream_in (header_byte n (set head n b) room))
  tidy_header n head room h u =
      pick_case (λ (x : Fed). TidyStream (stream_in x)) (ltb (n + 1) header_size)
      (more (stream_of (Header (n + 1)) (set head n b) room))
      (judged (verdict_of (header_at (set head n b) 0)) (set head n b) room)
      (λ e.
      record {
        eight = length-set head n b ∙ h;
        unused = one_in head n b (let z : n + 1 < header_size = ltb-true (n + 1) header_size e in omega arith) u;
      })
      (λ e. tidy-judged (verdict_of (header_at (set head n b) 0)) (set head n b) room (length-set head n b ∙ h))

  tidy_fed : (p : Place) (head room : List ℕ) → length head ≡ header_size → TidyAt p head → TidyStream (stream_in (feed_at p head room b))
  tidy_fed (Header n) head room h u = tidy_header n head room h u
  tidy_fed (Reading n) head room h u =
      let r : List ℕ = stored_in (header_at head 0).kind room n b in
      pick_case (λ (x : Fed). TidyStream (stream_in x)) (ltb (n + 1) (header_at head 0).length)
      (more (stream_of (Reading (n + 1)) head r))
      (ends (finished (header_at head 0).kind (header_at head 0).length) (rested r))
      (λ e. record { eight = h; unused = tt })
      (λ e. tidy-rested r)
  tidy_fed (Skipping n) head room h u =
      pick_case (λ (x : Fed). TidyStream (stream_in x)) (ltb (n + 1) (header_at head 0).length)
      (more (stream_of (Skipping (n + 1)) head room))
      (ends (skipped (header_at head 0).length) (rested room))
      (λ e. record { eight = h; unused = tt })
      (λ e. tidy-rested room)

pub tidy-feed : (s : Stream) (b : ℕ) → TidyStream s → TidyStream (stream_in (feed s b))
unfolding feed
tidy-feed s b t = tidy_fed b s.place s.head s.room t.eight t.unused

pub tidy-takes : (s : Stream) (input : List ℕ) → TidyStream s → TidyStream (takes s input).stream
unfolding takes
tidy-takes s [] t = t
tidy-takes s (b ∷ bs) t = by (feed s b) (tidy-feed s b t) (λ u h. tidy-takes u bs h)
  where
    by : (x : Fed) → TidyStream (stream_in x) → ((u : Stream) → TidyStream u → TidyStream (takes u bs).stream)
        → TidyStream (takes_by x (λ u. takes u bs)).stream
    by (more u) h k = k u h
    by (ends e u) h k = h

-- ---- rows

-- a row between two messages is tidy, whatever its state
pub tidy-between : (s : RowState) → Tidy (row_of s)
unfolding no_head
tidy-between s = record { eight = refl; unused = refl; freed = λ _. refl }

free_older : (s : RowState) → is_free_state (older_state s) ≡ is_free_state s
free_older Free = refl
free_older (Fresh c) = refl
free_older (Waiting q) = refl
free_older (Active a c) = refl

pub tidy-older : (r : Row) → Tidy r → Tidy (older r)
tidy-older r t = record { eight = t.eight; unused = t.unused; freed = λ e. t.freed (sym (free_older r.state) ∙ e) }

free_heard : (n : ℕ) (s : RowState) → is_free_state (heard_state n s) ≡ is_free_state s
free_heard n Free = refl
free_heard n (Fresh c) = refl
free_heard n (Waiting q) = refl
free_heard n (Active a c) = refl

-- a row that is open stays tidy with what it heard
pub tidy-heard : (n : ℕ) (s : Stream) (r : Row) → is_free r ≡ false → TidyStream s → Tidy (heard_row n s r)
tidy-heard n s r unfree t =
    record { eight = t.eight; unused = t.unused; freed = λ e. absurd (false≢true (sym unfree ∙ sym (free_heard n r.state) ∙ e)) }

pub tidy-stream : (r : Row) (room : List ℕ) → Tidy r → TidyStream (stream_of r.place r.head room)
tidy-stream r room t = record { eight = t.eight; unused = t.unused }

-- ---- a list of rows

abbrev pub AllTidy : List Row → Type 0
AllTidy rows = (i : ℕ) → Tidy (row_at rows i)

pub tidy-set : (rows : List Row) (r : ℕ) (x : Row) → AllTidy rows → Tidy x → AllTidy (set rows r x)
tidy-set rows r x a t i = row-set rows r i x Tidy (λ _ _. t) (a i)

pub tidy-map : (f : Row → Row) → f free_row ≡ free_row → ((r : Row) → Tidy r → Tidy (f r)) → (rows : List Row) → AllTidy rows → AllTidy (map f rows)
tidy-map f e k rows a i = rw (row-map f e rows i) (k (row_at rows i) (a i))

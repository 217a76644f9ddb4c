-- A run of bytes at once is the machine's single bytes, one after the other: header bytes up to eight, payload bytes that are read, and
-- payload bytes that are skipped, by one law.
-- Assumes nothing.
use Prim.Native.Nat.{ℕ, zero, suc, ◌+◌, ◌-◌, ◌≤◌, ◌<◌, min}
use mathlib.Core.Path.{◌≡◌, refl, sym, ap, ◌∙◌}
use mathlib.Core.Bool.{Bool, true, false, false≢true}
use mathlib.Core.List.{List, [], ◌∷◌, ◌++◌, append_assoc}
use native.Mathlib.Nat.{add-zero}
use native.Mathlib.Numerals.{add-one}
use native.Mathlib.Omega.{arith}
use lib.Dec.{ltb}
use lib.ListN.{length, take, drop, set, length-set, length-take}
use lib.Seq.{set_split, take_all}
use borrow.Author.Tests.{lt-ltb, le-ltb}
use Rattle.octets.specs.Choice.{pick}
use Rattle.octets.specs.Put.{put_at}
use Rattle.octets.proofs.PutLaws.{put_at-put_at, put_at-none}
use Rattle.wire.specs.declared.header.Header.{Header as Head}
use Rattle.wire.specs.Header.{header_size, header_at, verdict_of}
use Rattle.kinds.specs.declared.Event.{Event as Ours}
use Rattle.kinds.specs.declared.Event.TheVariants.{InputEnded, Wrong, Finished, Skipped}
use Rattle.kinds.specs.declared.Place.TheVariants.{Header, Reading, Skipping}
use Rattle.model.specs.Stream.{
  Stream,
  Event,
  input_ended,
  wrong,
  finished,
  skipped,
  Fed,
  more,
  ends,
  stream_of,
  rested,
  is_stored,
  judged,
  feed,
  Taken,
  taken,
  one_more,
  takes_by,
  takes,
}
use Rattle.stream.specs.declared.Took.{Took}
use Rattle.stream.specs.Took.{event_of, taken_of, Takes, kept_run, takes_after}

-- ---- one byte, then a run

abbrev kept_byte : Bool → List ℕ → ℕ → ℕ → List ℕ
kept_byte kept x n b = pick kept (set x n b) x

-- a byte is stored where it has room
abbrev pub Fits : Bool → List ℕ → ℕ → Type 0
Fits kept x size = kept ≡ true → size ≤ length x

set-put : (x : List ℕ) (n b : ℕ) → n < length x → set x n b ≡ put_at x n (b ∷ [])
unfolding put_at
set-put x n b h =
    set_split x n b h
    ∙ ap (λ (m : ℕ). take n x ++ (b ∷ drop m x)) (sym (add-one n))
    ∙ sym (append_assoc (take n x) (b ∷ []) (drop (n + 1) x))

run_none : (kept : Bool) (x : List ℕ) (n : ℕ) → x ≡ kept_run kept x n []
run_none true x n = put_at-none x n
run_none false x n = refl

run_more : (kept : Bool) (x : List ℕ) (n b : ℕ) (bs : List ℕ) → Fits kept x (n + suc (length bs))
    → kept_run kept (kept_byte kept x n b) (n + 1) bs ≡ kept_run kept x n (b ∷ bs)
run_more true x n b bs f =
    let h : n + suc (length bs) ≤ length x = f refl in
    ap (λ (l : List ℕ). put_at l (n + 1) bs) (set-put x n b (omega arith)) ∙ put_at-put_at x n (b ∷ []) (omega arith) bs (omega arith)
run_more false x n b bs f = refl

still_fits : (kept : Bool) (x : List ℕ) (n b size : ℕ) → Fits kept x size → Fits kept (kept_byte kept x n b) size
still_fits true x n b size f e = let h : size ≤ length x = f e in omega (arith, length-set x n b)
still_fits false x n b size f e = f e

after_one_lem : (d : Fed) (rest : Stream → Taken) → takes_by d rest ≡ takes_after 1 d rest
after_one_lem (more s) rest = let e : suc (rest s).count ≡ 1 + (rest s).count = omega arith in ap (λ (m : ℕ). taken m (rest s).event (rest s).stream) e
after_one_lem (ends e s) rest = refl

after_more : (k : ℕ) (d : Fed) (rest : Stream → Taken) → one_more (takes_after k d rest) ≡ takes_after (suc k) d rest
after_more k (more s) rest = let e : suc (k + (rest s).count) ≡ suc k + (rest s).count = omega arith in ap (λ (m : ℕ). taken m (rest s).event (rest s).stream) e
after_more k (ends e s) rest = refl

-- ---- a part of a message: so many bytes, each stored or not, and what the last of them brings about

module _ (at : ℕ → List ℕ → Stream) (size : ℕ) (kept : Bool) (last : List ℕ → Fed)
    (fed : (n : ℕ) (x : List ℕ) (b : ℕ) → feed (at n x) b ≡ pick (ltb (n + 1) size) (more (at (n + 1) (pick kept (set x n b) x))) (last (pick kept (set x n b) x)))
  where
    goes_on_lem : (n : ℕ) (x : List ℕ) (b : ℕ) → n + 1 < size → feed (at n x) b ≡ more (at (n + 1) (kept_byte kept x n b))
    goes_on_lem n x b h = fed n x b ∙ rw (lt-ltb (n + 1) size h)

    comes_last : (n : ℕ) (x : List ℕ) (b : ℕ) → size ≤ n + 1 → feed (at n x) b ≡ last (kept_byte kept x n b)
    comes_last n x b h = fed n x b ∙ rw (le-ltb (n + 1) size h)

    all-taken : (n : ℕ) (x bs : List ℕ) → Fits kept x size → n + length bs < size
        → takes (at n x) bs ≡ taken (length bs) input_ended (at (n + length bs) (kept_run kept x n bs))
    unfolding takes
    all-taken n x [] f h = ap (λ (m : ℕ). taken 0 input_ended (at m x)) (sym (add-zero n)) ∙ ap (λ (l : List ℕ). taken 0 input_ended (at (n + 0) l)) (run_none kept x n)
    all-taken n x (b ∷ bs) f h =
        let y : List ℕ = kept_byte kept x n b in
        let e : n + 1 + length bs ≡ n + suc (length bs) = omega arith in
        ap (λ (d : Fed). takes_by d (λ t. takes t bs)) (goes_on_lem n x b (omega arith))
        ∙ ap one_more (all-taken (n + 1) y bs (still_fits kept x n b size f) (omega arith))
        ∙ ap (λ (m : ℕ). taken (suc (length bs)) input_ended (at m (kept_run kept y (n + 1) bs))) e
        ∙ ap (λ (l : List ℕ). taken (suc (length bs)) input_ended (at (n + suc (length bs)) l)) (run_more kept x n b bs (λ t. omega (arith, f t)))

    to_the_last : (n k : ℕ) (x bs : List ℕ) → Fits kept x size → n + suc k ≡ size → suc k ≤ length bs
        → takes (at n x) bs ≡ takes_after (suc k) (last (kept_run kept x n (take (suc k) bs))) (λ t. takes t (drop (suc k) bs))
    unfolding takes
    to_the_last n k x [] f e h = absurd (omega arith)
    to_the_last n zero x (b ∷ bs) f e h =
        let y : List ℕ = kept_byte kept x n b in
        ap (λ (d : Fed). takes_by d (λ t. takes t bs)) (comes_last n x b (omega arith))
        ∙ after_one_lem (last y) (λ t. takes t bs)
        ∙ ap (λ (l : List ℕ). takes_after 1 (last l) (λ t. takes t bs)) (run_none kept y (n + 1) ∙ run_more kept x n b [] (λ t. omega (arith, f t)))
    to_the_last n (suc k) x (b ∷ bs) f e h =
        let y : List ℕ = kept_byte kept x n b in
        let g : Fits kept x (n + suc (length (take (suc k) bs))) = λ t. omega (arith, f t, length-take (suc k) bs) in
        ap (λ (d : Fed). takes_by d (λ t. takes t bs)) (goes_on_lem n x b (omega arith))
        ∙ ap one_more (to_the_last (n + 1) k y bs (still_fits kept x n b size f) (omega arith) (omega arith))
        ∙ after_more (suc k) (last (kept_run kept y (n + 1) (take (suc k) bs))) (λ t. takes t (drop (suc k) bs))
        ∙ ap (λ (l : List ℕ). takes_after (suc (suc k)) (last l) (λ t. takes t (drop (suc k) bs))) (run_more kept x n b (take (suc k) bs) g)

    -- a run that ends before the part does: all of it is taken
    pub falls-short : (n k : ℕ) (x bs : List ℕ) → Fits kept x size → k ≡ min (size - n) (length bs) → k < size - n
        → takes (at n x) bs ≡ taken k input_ended (at (n + k) (kept_run kept x n (take k bs)))
    falls-short n k x bs f e h =
        let l : length bs ≡ k = omega arith in
        all-taken n x bs f (omega arith)
        ∙ ap (λ (m : ℕ). taken m input_ended (at (n + m) (kept_run kept x n bs))) l
        ∙ ap (λ (t : List ℕ). taken k input_ended (at (n + k) (kept_run kept x n t))) (sym (take_all k bs (omega arith)))

    -- a run that holds the whole rest of the part: exactly that is taken
    pub comes_whole : (n k : ℕ) (x bs : List ℕ) → n < size → Fits kept x size → k ≡ min (size - n) (length bs) → size - n ≤ k
        → takes (at n x) bs ≡ takes_after k (last (kept_run kept x n (take k bs))) (λ t. takes t (drop k bs))
    comes_whole n zero x bs w f e h = absurd (omega arith)
    comes_whole n (suc k) x bs w f e h = to_the_last n k x bs f (omega arith) (omega arith)

-- ---- the three parts: a header, a payload that is read, a payload that is skipped

module _ (head room : List ℕ) (eight : length head ≡ header_size) (n k : ℕ) (bs : List ℕ) (most : k ≡ min (header_size - n) (length bs)) where
  pub header_short : k < header_size - n
      → takes (stream_of (Header n) head room) bs ≡ taken k input_ended (stream_of (Header (n + k)) (put_at head n (take k bs)) room)
  unfolding feed
  header_short h =
      falls-short (λ m x. stream_of (Header m) x room) header_size true (λ x. judged (verdict_of (header_at x 0)) x room) (λ m x b. refl)
      n k head bs (λ _. omega arith) most h

  pub header_whole : n < header_size → header_size - n ≤ k
      → takes (stream_of (Header n) head room) bs
      ≡ takes_after k (judged (verdict_of (header_at (put_at head n (take k bs)) 0)) (put_at head n (take k bs)) room) (λ t. takes t (drop k bs))
  unfolding feed
  header_whole w h =
      comes_whole (λ m x. stream_of (Header m) x room) header_size true (λ x. judged (verdict_of (header_at x 0)) x room) (λ m x b. refl)
      n k head bs w (λ _. omega arith) most h

-- h is the header of the payload
module _ (head room : List ℕ) (h : Head) (is : h ≡ header_at head 0) (n k : ℕ) (bs : List ℕ) (most : k ≡ min (h.length - n) (length bs)) where
  pub reading_short : Fits (is_stored h.kind) room h.length → k < h.length - n
      → takes (stream_of (Reading n) head room) bs
      ≡ taken k input_ended (stream_of (Reading (n + k)) head (kept_run (is_stored h.kind) room n (take k bs)))
  unfolding feed
  reading_short f l =
      falls-short (λ m x. stream_of (Reading m) head x) h.length (is_stored h.kind) (λ x. ends (finished h.kind h.length) (rested x))
      (λ m x b. rw is) n k room bs f most l

  pub reading_whole : Fits (is_stored h.kind) room h.length → n < h.length → h.length - n ≤ k
      → takes (stream_of (Reading n) head room) bs
      ≡ taken k (finished h.kind h.length) (rested (kept_run (is_stored h.kind) room n (take k bs)))
  unfolding feed
  reading_whole f w l =
      comes_whole (λ m x. stream_of (Reading m) head x) h.length (is_stored h.kind) (λ x. ends (finished h.kind h.length) (rested x))
      (λ m x b. rw is) n k room bs w f most l

  pub skipping_short : k < h.length - n
      → takes (stream_of (Skipping n) head room) bs ≡ taken k input_ended (stream_of (Skipping (n + k)) head room)
  unfolding feed
  skipping_short l =
      falls-short (λ m x. stream_of (Skipping m) head x) h.length false (λ x. ends (skipped h.length) (rested x)) (λ m x b. rw is)
      n k room bs (λ e. absurd (false≢true e)) most l

  pub skipping_whole : n < h.length → h.length - n ≤ k
      → takes (stream_of (Skipping n) head room) bs ≡ taken k (skipped h.length) (rested room)
  unfolding feed
  skipping_whole w l =
      comes_whole (λ m x. stream_of (Skipping m) head x) h.length false (λ x. ends (skipped h.length) (rested x)) (λ m x b. rw is)
      n k room bs w (λ e. absurd (false≢true e)) most l

-- no more is taken than there is
pub takes_few : (s : Stream) (bs : List ℕ) → (takes s bs).count ≤ length bs
unfolding takes
takes_few s [] = omega arith
takes_few s (b ∷ bs) = by (feed s b) (λ t. takes_few t bs)
  where
    by : (d : Fed) → ((t : Stream) → (takes t bs).count ≤ length bs) → (takes_by d (λ t. takes t bs)).count ≤ suc (length bs)
    by (more t) h = omega (arith, h t)
    by (ends e t) h = omega arith

-- ---- the contract

-- the five parts are all of it
pub takes_one : {r : Took} {room : List ℕ} {t : Taken} → Takes r room t → taken_of r room ≡ t
takes_one k = rw (k.count, k.event, k.place, k.head, k.room)

-- an event of the model is one of ours
abbrev our_event : Event → Ours
our_event input_ended = InputEnded
our_event (wrong fault) = Wrong fault
our_event (finished kind size) = Finished kind size
our_event (skipped size) = Skipped size

same_event : (e : Ours) → our_event (event_of e) ≡ e
same_event InputEnded = refl
same_event (Wrong fault) = refl
same_event (Finished kind size) = refl
same_event (Skipped size) = refl

-- so the contract leaves no choice: two answers that it allows are one, and so are the rooms that they leave
pub takes_settled : {r q : Took} {room other : List ℕ} {t : Taken} → Takes r room t → Takes q other t → (r ≡ q) × (room ≡ other)
takes_settled {r} {q} a b =
    let e : r.event ≡ q.event = sym (same_event r.event) ∙ ap our_event (a.event ∙ sym b.event) ∙ same_event q.event in
    (rw (a.count ∙ sym b.count, e, a.place ∙ sym b.place, a.head ∙ sym b.head), a.room ∙ sym b.room)

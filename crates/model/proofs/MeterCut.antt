-- The bytes of a connection cut into messages, and where a row stands in them.
-- Assumes nothing.
use Prim.Native.Nat.{ℕ, zero, suc, ◌+◌, ◌≤◌, ◌<◌}
use mathlib.Core.Path.{◌≡◌, refl, sym, ap, subst, ◌∙◌}
use mathlib.Core.Bool.{true, false}
use mathlib.Core.List.{List, [], ◌++◌, append_assoc}
use native.Mathlib.Nat.{zero-add}
use native.Mathlib.Omega.{arith}
use lib.Dec.{leb}
use lib.ListN.{get_or, length, drop, length-append, length-drop, get_or-append}
use lib.Seq.{drop-append_seam}
use borrow.Author.Tests.{leb-true, le-leb}
use Rattle.octets.specs.Choice.{pick, unless}
use Rattle.wire.specs.declared.header.Header.{Header as Head}
use Rattle.wire.specs.Header.{header_size, header_at, verdict_of}
use Rattle.model.specs.Meter.{stops, whole_size, finished_up_to, finished_in}
use Rattle.model.proofs.Cases.{pick_case, unless_case, split}

-- ---- a message that is not all there

pub short_none : (k : ℕ) (bytes : List ℕ) → length bytes < header_size → finished_up_to k bytes ≡ 0
unfolding finished_up_to
short_none zero bytes h = refl
short_none (suc k) bytes h =
    unless_case (λ n. n ≡ 0) (leb header_size (length bytes)) _ _ (λ _. refl) (λ t. absurd (omega (arith, leb-true header_size (length bytes) t)))

pub part_none : (k : ℕ) (bytes : List ℕ) → stops (verdict_of (header_at bytes 0)) ≡ false → length bytes < whole_size bytes → finished_up_to k bytes ≡ 0
unfolding finished_up_to
part_none zero bytes e h = refl
part_none (suc k) bytes e h =
    unless_case (λ n. n ≡ 0) (leb header_size (length bytes)) _ _ (λ _. refl)
    (λ _. rw e
    (unless_case (λ n. n ≡ 0) (leb (whole_size bytes) (length bytes)) _ _ (λ _. refl)
    (λ t. absurd (omega (arith, leb-true (whole_size bytes) (length bytes) t)))))

-- ---- enough is enough

enough : (j k : ℕ) (bytes : List ℕ) → length bytes ≤ j → length bytes ≤ k → finished_up_to j bytes ≡ finished_up_to k bytes
unfolding finished_up_to
enough zero zero bytes h l = refl
enough zero (suc k) bytes h l = sym (short_none (suc k) bytes (omega arith))
enough (suc j) zero bytes h l = short_none (suc j) bytes (omega arith)
enough (suc j) (suc k) bytes h l =
    split (leb header_size (length bytes))
    (λ t. let r : length (drop (whole_size bytes) bytes) + header_size ≤ length bytes =
    omega (arith, length-drop (whole_size bytes) bytes, leb-true header_size (length bytes) t) in
    ap
    (λ (n : ℕ). unless (leb header_size (length bytes)) 0
    (pick (stops (verdict_of (header_at bytes 0))) header_size (unless (leb (whole_size bytes) (length bytes)) 0 (whole_size bytes + n))))
    (enough j k (drop (whole_size bytes) bytes) (omega arith) (omega arith)))
    (λ t. rw t refl)

-- ---- whole messages

-- whatever follows, all its bytes are of finished messages
abbrev pub Whole : List ℕ → Type 0
Whole a = (b : List ℕ) → finished_in (a ++ b) ≡ length a + finished_in b

pub whole-none : Whole []
whole-none b = sym (zero-add (finished_in b))

pub whole_append : (a b : List ℕ) → Whole a → Whole b → Whole (a ++ b)
whole_append a b w v c = ap finished_in (append_assoc a b c) ∙ w (b ++ c) ∙ omega (arith, v c, length-append a b)

-- a header is in the first eight bytes
pub head_same : (a b : List ℕ) → ((i : ℕ) → i < header_size → get_or a i 0 ≡ get_or b i 0) → header_at a 0 ≡ header_at b 0
head_same a b h = rw (h 0 (omega arith), h 1 (omega arith), h 2 (omega arith), h 3 (omega arith), h 4 (omega arith), h 5 (omega arith), h 6 (omega arith), h 7 (omega arith)) refl

pub head_append : (a b : List ℕ) → header_size ≤ length a → header_at (a ++ b) 0 ≡ header_at a 0
head_append a b h = head_same (a ++ b) a (λ i l. get_or-append a b 0 i (omega arith))

-- the front of what is cut, with its header known
module _ (bytes : List ℕ) (h : Head) (is : header_at bytes 0 ≡ h) (long : header_size ≤ length bytes) where
  pub cut_stops : stops (verdict_of h) ≡ true → finished_in bytes ≡ header_size
  unfolding finished_up_to
  cut_stops e = go (length bytes) long
    where
      go : (k : ℕ) → header_size ≤ k → finished_up_to k bytes ≡ header_size
      go zero l = absurd (omega arith)
      go (suc k) l = rw (le-leb header_size (length bytes) long, is, e) refl

  cut_message : stops (verdict_of h) ≡ false → header_size + h.length ≤ length bytes
      → finished_in bytes ≡ header_size + h.length + finished_in (drop (header_size + h.length) bytes)
  unfolding finished_up_to
  cut_message e l = go (length bytes) (omega arith)
    where
      go : (k : ℕ) → length bytes ≤ k → finished_up_to k bytes ≡ header_size + h.length + finished_in (drop (header_size + h.length) bytes)
      go zero m = absurd (omega arith)
      go (suc k) m =
          subst
          (λ (x : Head). unless (leb header_size (length bytes)) 0
          (pick (stops (verdict_of x)) header_size
          (unless (leb (header_size + x.length) (length bytes)) 0
          (header_size + x.length + finished_up_to k (drop (header_size + x.length) bytes)))) ≡
          header_size + h.length + finished_in (drop (header_size + h.length) bytes))
          (sym is)
          (rw (le-leb header_size (length bytes) long, e, le-leb (header_size + h.length) (length bytes) l)
          (ap (λ (n : ℕ). header_size + h.length + n)
          (enough k (length (drop (header_size + h.length) bytes)) (drop (header_size + h.length) bytes)
          (omega (arith, length-drop (header_size + h.length) bytes)) (omega arith))))

-- a message that is all there, whose header does not close
pub whole-message : (a : List ℕ) → header_size ≤ length a → stops (verdict_of (header_at a 0)) ≡ false → length a ≡ whole_size a → Whole a
whole-message a l e s b =
    cut_message (a ++ b) (header_at a 0) (head_append a b l) (omega (arith, length-append a b)) e (omega (arith, length-append a b)) ∙
    rw (← s) (ap (λ (c : List ℕ). length a + finished_in c) (drop-append_seam a b))

-- no more is finished than there is
pub finished_most : (k : ℕ) (bytes : List ℕ) → finished_up_to k bytes ≤ length bytes
unfolding finished_up_to
finished_most zero bytes = omega arith
finished_most (suc k) bytes =
    unless_case (λ n. n ≤ length bytes) (leb header_size (length bytes)) _ _ (λ _. omega arith)
    (λ t. pick_case (λ n. n ≤ length bytes) (stops (verdict_of (header_at bytes 0))) _ _ (λ _. leb-true header_size (length bytes) t)
    (λ _. unless_case (λ n. n ≤ length bytes) (leb (whole_size bytes) (length bytes)) _ _ (λ _. omega arith)
    (λ u. omega (
      arith,
      leb-true (whole_size bytes) (length bytes) u,
      length-drop (whole_size bytes) bytes,
      finished_most k (drop (whole_size bytes) bytes),
    ))))

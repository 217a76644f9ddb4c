-- Laws of the phrase book: a phrase by its place among texts that are lent, and each phrase is short.
-- Assumes nothing.
use Rattle.std.proofs.Common.{◌≡◌, ℕ, zero, suc, ◌≤◌, ◌<◌, Bool, true, false, List, [], ◌∷◌, length, get_or, map, refl, sym, ap, ◌∙◌, arith, Bor}
use Rattle.std.specs.Prelude.{leb, ltb}
use Rattle.std.proofs.lemmas.List.{get_or-map, get_or_past, length-map}
use Prim.Native.String.{String}
use borrow.Author.Tests.{leb-true, ltb-true, ltb-false}
use Rattle.octets.specs.Choice.{both}
use Rattle.octets.proofs.ChoiceLaws.{both_left, both_right}
use Rattle.words.specs.Said.{spelled}
use Rattle.words.specs.Book.{book, phrase, text_in}

-- a text that is there, and one that is not
pub text-at : (l : List (Bor (List ℕ))) (k : ℕ) (x : Bor (List ℕ)) → true ≡ ltb k (length l) → x ≡ get_or l k x → x.now ≡ text_in l k
unfolding text_in
text-at l k x h e =
    let fits : k < length l = ltb-true k (length l) (sym h) in
    ap (λ (y : Bor (List ℕ)). y.now) e ∙ sym (get_or-map (λ (y : Bor (List ℕ)). y.now) l k x [] fits)

pub text_past : (l : List (Bor (List ℕ))) (k : ℕ) → false ≡ ltb k (length l) → [] ≡ text_in l k
unfolding text_in
text_past l k h =
    let past : length l ≤ k = ltb-false k (length l) (sym h) in
    sym (get_or_past (map (λ (y : Bor (List ℕ)). y.now) l) k [] (omega (arith, length-map l (λ (y : Bor (List ℕ)). y.now))))

-- the texts of the book
pub text-phrase : (l : List (Bor (List ℕ))) (k : ℕ) → map (λ (x : Bor (List ℕ)). x.now) l ≡ map spelled book → text_in l k ≡ phrase k
unfolding text_in phrase
text-phrase l k e = ap (λ (t : List (List ℕ)). get_or t k []) e ∙ spelled-at book k
  where
    spelled-at : (b : List String) (j : ℕ) → get_or (map spelled b) j [] ≡ spelled (get_or b j "")
    spelled-at [] j = refl
    spelled-at (s ∷ b) zero = refl
    spelled-at (s ∷ b) (suc j) = spelled-at b j

-- the longest phrase is no longer
abbrev pub most_phrase : ℕ
most_phrase = 128

short : List String → Bool
short [] = true
short (s ∷ l) = both (leb (length (spelled s)) most_phrase) (short l)

short_at : (b : List String) → short b ≡ true → (k : ℕ) → length (spelled (get_or b k "")) ≤ most_phrase
unfolding short
short_at [] h k = omega arith
short_at (s ∷ l) h zero = leb-true (length (spelled s)) most_phrase (both_left (leb (length (spelled s)) most_phrase) (short l) h)
short_at (s ∷ l) h (suc k) = short_at l (both_right (leb (length (spelled s)) most_phrase) (short l) h) k

book_short : short book ≡ true
unfolding short book
book_short = refl

pub phrase-short : (k : ℕ) → length (phrase k) ≤ most_phrase
unfolding phrase
phrase-short k = short_at book book_short k

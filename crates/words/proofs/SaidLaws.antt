-- Laws of texts that are put: one after another, and none.
-- Assumes nothing.
use mathlib.Core.Path.{◌≡◌, refl, sym, ap, subst, ◌∙◌}
use mathlib.Core.List.{List, [], ◌∷◌, ◌++◌}
use Prim.Native.Nat.{ℕ, suc, ◌+◌, ◌≤◌, ◌<◌}
use native.Mathlib.Numerals.{add-one}
use native.Mathlib.Omega.{arith}
use lib.ListN.{length, get_or, take, set, length-append}
use lib.Seq.{take-suc, length-take-le}
use Rattle.octets.specs.Put.{put_at}
use Rattle.octets.proofs.PutLaws.{put_at-none, set_more}
use Rattle.lines.specs.Text.{Wrote}
use Rattle.lines.proofs.TextLaws.{wrote-more}
use Rattle.words.specs.Said.{Said, shown_of, letters}

-- one text after another
pub said_more : {a b out out₁ out₂ : List ℕ} {at p r : ℕ} → Said a out out₁ at p → Said b out₁ out₂ p r → Said (a ++ b) out out₂ at r
said_more {a} {b} {out} {out₁} {out₂} {at} {p} {r} v w =
    record {
      wrote = λ h. by (omega (arith, h, length-append a b)) h;
      inside = λ h. let k = v.inside h in let l = v.kept in let m = w.inside (omega arith) in omega arith;
      kept = w.kept ∙ v.kept;
    }
  where
    by : at + length a ≤ length out → at + length (a ++ b) ≤ length out → Wrote (a ++ b) out out₂ at r
    by k h =
        let x = v.wrote k in
        let fits : p + length b ≤ length out = omega (arith, x.after, h, length-append a b) in
        wrote-more x (w.wrote (omega (arith, fits, v.kept))) fits

-- there is no room
pub said-none : {t out : List ℕ} {at : ℕ} → (at + length t ≤ length out → ⊥) → Said t out out at at
said-none h = record { wrote = λ k. absurd (h k); inside = λ k. k; kept = refl }

-- all of it was put
pub said_all : {t out out₁ : List ℕ} {at r : ℕ} → at + length t ≤ length out → Wrote t out out₁ at r → length out₁ ≡ length out → Said t out out₁ at r
said_all h w e = record { wrote = λ _. w; inside = λ _. omega (arith, w.after, h); kept = e }

-- a letter for each byte
pub length-letters : (l : List ℕ) → length (letters l) ≡ length l
unfolding letters
length-letters [] = refl
length-letters (b ∷ l) = ap suc (length-letters l)

letters_append : (l m : List ℕ) → letters (l ++ m) ≡ letters l ++ letters m
unfolding letters
letters_append [] m = refl
letters_append (b ∷ l) m = ap (λ (x : List ℕ). shown_of b ∷ x) (letters_append l m)

letters-more : (l : List ℕ) (j : ℕ) → j < length l → letters (take (j + 1) l) ≡ letters (take j l) ++ (shown_of (get_or l j 0) ∷ [])
unfolding letters
letters-more l j h =
    ap (λ (n : ℕ). letters (take n l)) (add-one j) ∙ ap letters (take-suc l j 0 h) ∙ letters_append (take j l) (get_or l j 0 ∷ [])

-- a turn of `letters_of`
pub letters_turn : (bytes out out₁ : List ℕ) (at j x : ℕ) → out₁ ≡ put_at out at (letters (take j bytes)) → j < length bytes → at + length bytes ≤ length out
    → x ≡ shown_of (get_or bytes j 0) → set out₁ (at + j) x ≡ put_at out at (letters (take (j + 1) bytes))
letters_turn bytes out out₁ at j x e h fits k =
    let long : length (letters (take j bytes)) ≡ j = length-letters (take j bytes) ∙ length-take-le j bytes (omega arith) in
    set_more out at (letters (take j bytes)) out₁ (at + j) x e (omega (arith, long)) (omega arith)
    ∙ ap (λ (y : ℕ). put_at out at (letters (take j bytes) ++ (y ∷ []))) k
    ∙ ap (put_at out at) (sym (letters-more bytes j h))

-- the same text in other words
pub said-is : {t u out out₁ : List ℕ} {at r : ℕ} → t ≡ u → Said t out out₁ at r → Said u out out₁ at r
said-is {t} {u} {out} {out₁} {at} {r} e w = subst (λ (x : List ℕ). Said x out out₁ at r) e w

-- no text at all
pub said-nothing : {out : List ℕ} {at : ℕ} → Said [] out out at at
said-nothing {out} {at} = record { wrote = λ h. record { put = put_at-none out at; after = omega arith }; inside = λ h. h; kept = refl }

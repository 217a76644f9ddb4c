-- What a sentence says, from its phrase in words.
-- Assumes nothing.
use Rattle.std.proofs.Common.{◌≡◌, ℕ, ◌≤◌, List, [], ◌∷◌, ◌++◌, length, map, refl, ap, ◌∙◌, arith}
use Prim.Native.String.{String}
use Rattle.words.specs.Said.{spelled}
use Rattle.words.specs.Book.{phrase, fill}
use Rattle.words.specs.Sentence.{arg_text, filled, sentence, sentence_text}
use Rattle.words.specs.declared.fill.Arg.{Arg}
use Rattle.words.proofs.FillLaws.{holes, fill-blank, fill_none}

-- a sentence says its phrase with what it was given in the holes
fill_given : (t : List ℕ) (l : List Arg) → length l ≤ 4 → fill t (map arg_text (sentence 0 l).args) ≡ fill t (map arg_text l)
fill_given t [] h =
    fill-blank t ([] ∷ [] ∷ [] ∷ []) ∙ fill-blank t ([] ∷ [] ∷ []) ∙ fill-blank t ([] ∷ []) ∙ fill-blank t []
fill_given t (x ∷ []) h =
    let a : List ℕ = arg_text x in
    fill-blank t (a ∷ [] ∷ [] ∷ []) ∙ fill-blank t (a ∷ [] ∷ []) ∙ fill-blank t (a ∷ [])
fill_given t (x ∷ y ∷ []) h = let l : List (List ℕ) = arg_text x ∷ arg_text y ∷ [] in fill-blank t (l ++ ([] ∷ [])) ∙ fill-blank t l
fill_given t (x ∷ y ∷ z ∷ []) h = fill-blank t (arg_text x ∷ arg_text y ∷ arg_text z ∷ [])
fill_given t (x ∷ y ∷ z ∷ w ∷ []) h = refl
fill_given t (x ∷ y ∷ z ∷ w ∷ v ∷ l) h = absurd (omega arith)

pub says : (k : ℕ) (s : String) (l : List Arg) → phrase k ≡ spelled s → length l ≤ 4 → sentence_text (sentence k l) ≡ filled s (map arg_text l)
says k s l e h = ap (λ (t : List ℕ). fill t (map arg_text (sentence k l).args)) e ∙ fill_given (spelled s) l h

-- a phrase without a hole
pub says_plain : (k : ℕ) (s : String) → phrase k ≡ spelled s → holes (spelled s) ≡ 0 → sentence_text (sentence k []) ≡ spelled s
says_plain k s e h = ap (λ (t : List ℕ). fill t (map arg_text (sentence k []).args)) e ∙ fill_none (spelled s) _ h

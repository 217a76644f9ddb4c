-- What the sentences of headings and closing lines say, in words.
-- Assumes nothing.
use Rattle.std.proofs.Common.{◌≡◌, ℕ, List, [], ◌∷◌, refl, ap, ◌∙◌, arith}
use Rattle.lines.specs.Text.{decimal}
use Rattle.words.specs.Said.{spelled}
use Rattle.words.specs.Book.{phrase, book}
use Rattle.words.specs.Names.{refusal_name}
use Rattle.words.specs.Sentence.{filled, address, sentence, sentence_text}
use Rattle.words.specs.declared.fill.Arg.TheVariants.{Number, Address, Phrase}
use Rattle.words.proofs.FillLaws.{holes}
use Rattle.words.proofs.SentenceLaws.{says, says_plain}

pub start_says : sentence_text (sentence 48 []) ≡ spelled "start a fresh table: "
unfolding phrase book holes
start_says = says_plain 48 "start a fresh table: " refl refl

pub connect-says : (n : ℕ) → sentence_text (sentence 49 (Number n ∷ []))
    ≡ filled "connect, farm %: " (decimal n ∷ [])
unfolding phrase book
connect-says n = says 49 "connect, farm %: " (Number n ∷ []) refl (omega arith)

pub bytes-says : (n : ℕ) → sentence_text (sentence 50 (Number n ∷ []))
    ≡ filled "bytes from row %: " (decimal n ∷ [])
unfolding phrase book
bytes-says n = says 50 "bytes from row %: " (Number n ∷ []) refl (omega arith)

pub closed-says : (n : ℕ) → sentence_text (sentence 51 (Number n ∷ []))
    ≡ filled "peer closed, row %: " (decimal n ∷ [])
unfolding phrase book
closed-says n = says 51 "peer closed, row %: " (Number n ∷ []) refl (omega arith)

pub lost-says : (n : ℕ) → sentence_text (sentence 52 (Number n ∷ []))
    ≡ filled "link of farm % lost: " (decimal n ∷ [])
unfolding phrase book
lost-says n = says 52 "link of farm % lost: " (Number n ∷ []) refl (omega arith)

pub datagram-says : (n : ℕ) → sentence_text (sentence 54 (Number n ∷ []))
    ≡ filled "datagram, farm %: " (decimal n ∷ [])
unfolding phrase book
datagram-says n = says 54 "datagram, farm %: " (Number n ∷ []) refl (omega arith)

pub tick-says : sentence_text (sentence 53 []) ≡ spelled "tick: "
unfolding phrase book holes
tick-says = says_plain 53 "tick: " refl refl

pub controller-says : (f c t : ℕ) → sentence_text (sentence 55 (Number f ∷ Address c ∷ Address t ∷ []))
    ≡ filled "message from a controller, farm %, from controller % to tester %: " (decimal f ∷ address c ∷ address t ∷ [])
unfolding phrase book
controller-says f c t = says 55 "message from a controller, farm %, from controller % to tester %: " (Number f ∷ Address c ∷ Address t ∷ []) refl (omega arith)

pub done-says : sentence_text (sentence 56 []) ≡ spelled "done"
unfolding phrase book holes
done-says = says_plain 56 "done" refl refl

pub opened_says : (r : ℕ) → sentence_text (sentence 57 (Number r ∷ []))
    ≡ filled "done, row % opened" (decimal r ∷ [])
unfolding phrase book
opened_says r = says 57 "done, row % opened" (Number r ∷ []) refl (omega arith)

pub taken-says : (t g : ℕ) → sentence_text (sentence 58 (Number t ∷ Number g ∷ []))
    ≡ filled "done, % of % bytes taken" (decimal t ∷ decimal g ∷ [])
unfolding phrase book
taken-says t g = says 58 "done, % of % bytes taken" (Number t ∷ Number g ∷ []) refl (omega arith)

pub refused_says : (c k : ℕ) → phrase k ≡ refusal_name c → sentence_text (sentence 59 (Number c ∷ Phrase k ∷ []))
    ≡ filled "refused (%): %" (decimal c ∷ refusal_name c ∷ [])
unfolding phrase book
refused_says c k e = says 59 "refused (%): %" (Number c ∷ Phrase k ∷ []) refl (omega arith) ∙ ap (λ (x : List ℕ). filled "refused (%): %" (decimal c ∷ x ∷ [])) e

pub count-says : (n : ℕ) → sentence_text (sentence 47 (Number n ∷ []))
    ≡ filled "call %: " (decimal n ∷ [])
unfolding phrase book
count-says n = says 47 "call %: " (Number n ∷ []) refl (omega arith)

pub farm-says : (f t g l : ℕ) → sentence_text (sentence 60 (Number f ∷ Number t ∷ Number g ∷ Number l ∷ []))
    ≡ filled "farm %: % bytes taken, % finished, % lost" (decimal f ∷ decimal t ∷ decimal g ∷ decimal l ∷ [])
unfolding phrase book
farm-says f t g l = refl

pub end_says : (n : ℕ) → sentence_text (sentence 61 (Number n ∷ []))
    ≡ filled "the end: % calls" (decimal n ∷ [])
unfolding phrase book
end_says n = says 61 "the end: % calls" (Number n ∷ []) refl (omega arith)

pub cut_says : (n : ℕ) → sentence_text (sentence 62 (Number n ∷ []))
    ≡ filled "the file is cut at byte %: the record that begins there is not whole" (decimal n ∷ [])
unfolding phrase book
cut_says n = says 62 "the file is cut at byte %: the record that begins there is not whole" (Number n ∷ []) refl (omega arith)

pub bad_says : (n : ℕ) → sentence_text (sentence 63 (Number n ∷ []))
    ≡ filled "the file is bad at byte %: the record that begins there can not be read" (decimal n ∷ [])
unfolding phrase book
bad_says n = says 63 "the file is bad at byte %: the record that begins there can not be read" (Number n ∷ []) refl (omega arith)

-- what the sentences say
pub ruleset said = (
  start_says,
  connect-says,
  bytes-says,
  closed-says,
  lost-says,
  datagram-says,
  tick-says,
  controller-says,
  done-says,
  opened_says,
  taken-says,
  refused_says,
  count-says,
  farm-says,
  end_says,
  cut_says,
  bad_says,
)

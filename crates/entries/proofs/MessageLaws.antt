-- What the sentences about messages and entries say, in words.
-- Assumes nothing.
use Rattle.std.proofs.Common.{◌≡◌, ℕ, List, [], ◌∷◌, refl, ap, ◌∙◌, arith}
use Rattle.lines.specs.Text.{decimal}
use Rattle.words.specs.Said.{spelled}
use Rattle.words.specs.Book.{phrase, book, fill}
use Rattle.words.specs.Names.{fault_name, activation_name, diagnostic_name, mode_name}
use Rattle.words.specs.Sentence.{filled, address, code, sentence, sentence_text}
use Rattle.words.specs.declared.fill.Arg.TheVariants.{Number, Address, Code, Phrase}
use Rattle.words.proofs.FillLaws.{holes}
use Rattle.words.proofs.SentenceLaws.{says, says_plain}
use Rattle.entries.specs.Messages.{unreadable}
use Rattle.entries.proofs.EntryLaws.{rest_long, rest_whole}

pub odd_says : sentence_text (sentence 39 []) ≡ unreadable
unfolding phrase book holes
odd_says = says_plain 39 "sent a message that can not be read" refl refl

pub nack-says : (c k : ℕ) → phrase k ≡ fault_name c → sentence_text (sentence 30 (Code c ∷ Phrase k ∷ []))
    ≡ filled "sent header negative acknowledge (0000): code %, %" (code c ∷ fault_name c ∷ [])
unfolding phrase book
nack-says c k e =
    says 30 "sent header negative acknowledge (0000): code %, %" (Code c ∷ Phrase k ∷ []) refl (omega arith)
    ∙ ap (λ (x : List ℕ). filled "sent header negative acknowledge (0000): code %, %" (code c ∷ x ∷ [])) e

pub activation_says : (t e c k : ℕ) → phrase k ≡ activation_name c
    → sentence_text (sentence 32 (Address t ∷ Address e ∷ Code c ∷ Phrase k ∷ []))
    ≡ filled "sent routing activation response (0006): tester %, entity %, code %, %" (address t ∷ address e ∷ code c ∷ activation_name c ∷ [])
unfolding phrase book
activation_says t e c k h =
    ap (λ (x : List ℕ). filled "sent routing activation response (0006): tester %, entity %, code %, %" (address t ∷ address e ∷ code c ∷ x ∷ [])) h

pub alive-says : sentence_text (sentence 33 []) ≡ spelled "sent alive check request (0007)"
unfolding phrase book holes
alive-says = says_plain 33 "sent alive check request (0007)" refl refl

pub status-says : (q n m : ℕ) → sentence_text (sentence 34 (Number q ∷ Number n ∷ Number m ∷ []))
    ≡ filled "sent entity status response (4002): places for testers %, rows open %, longest message % bytes" (decimal q ∷ decimal n ∷ decimal m ∷ [])
unfolding phrase book
status-says q n m =
    says 34 "sent entity status response (4002): places for testers %, rows open %, longest message % bytes" (Number q ∷ Number n ∷ Number m ∷ []) refl (omega arith)

pub mode_says : (c k : ℕ) → phrase k ≡ mode_name c → sentence_text (sentence 35 (Code c ∷ Phrase k ∷ []))
    ≡ filled "sent power mode response (4004): %, %" (code c ∷ mode_name c ∷ [])
unfolding phrase book
mode_says c k e =
    says 35 "sent power mode response (4004): %, %" (Code c ∷ Phrase k ∷ []) refl (omega arith)
    ∙ ap (λ (x : List ℕ). filled "sent power mode response (4004): %, %" (code c ∷ x ∷ [])) e

pub diagnostic-says : (x y : ℕ) {n m : ℕ} → n ≡ m → sentence_text (sentence 36 (Address x ∷ Address y ∷ Number n ∷ []))
    ≡ filled "sent diagnostic message (8001): from controller % to tester %, user data % bytes" (address x ∷ address y ∷ decimal m ∷ [])
unfolding phrase book
diagnostic-says x y {n} {m} e =
    says 36 "sent diagnostic message (8001): from controller % to tester %, user data % bytes" (Address x ∷ Address y ∷ Number n ∷ []) refl (omega arith)
    ∙ ap (λ (k : ℕ). filled "sent diagnostic message (8001): from controller % to tester %, user data % bytes" (address x ∷ address y ∷ decimal k ∷ [])) e

pub answered-says : (w c t x k : ℕ) → phrase k ≡ diagnostic_name x
    → sentence_text (sentence w (Address c ∷ Address t ∷ Code x ∷ Phrase k ∷ []))
    ≡ fill (phrase w) (address c ∷ address t ∷ code x ∷ diagnostic_name x ∷ [])
answered-says w c t x k h = ap (λ (l : List ℕ). fill (phrase w) (address c ∷ address t ∷ code x ∷ l ∷ [])) h

pub handed_says : (x y : ℕ) {n m : ℕ} → n ≡ m → sentence_text (sentence 41 (Address x ∷ Address y ∷ Number n ∷ []))
    ≡ filled "handed on: from tester % to controller %, user data % bytes" (address x ∷ address y ∷ decimal m ∷ [])
unfolding phrase book
handed_says x y {n} {m} e =
    says 41 "handed on: from tester % to controller %, user data % bytes" (Address x ∷ Address y ∷ Number n ∷ []) refl (omega arith)
    ∙ ap (λ (k : ℕ). filled "handed on: from tester % to controller %, user data % bytes" (address x ∷ address y ∷ decimal k ∷ [])) e

pub odd_payload-says : sentence_text (sentence 42 []) ≡ spelled "handed on a payload that can not be read"
unfolding phrase book holes
odd_payload-says = says_plain 42 "handed on a payload that can not be read" refl refl

pub identity_says : (e : ℕ) → sentence_text (sentence 31 (Address e ∷ []))
    ≡ filled "sent vehicle identification response (0004): entity %, VIN " (address e ∷ [])
unfolding phrase book
identity_says e = says 31 "sent vehicle identification response (0004): entity %, VIN " (Address e ∷ []) refl (omega arith)

pub to_sender-says : sentence_text (sentence 46 []) ≡ spelled "    datagram: "
unfolding phrase book holes
to_sender-says = says_plain 46 "    datagram: " refl refl

pub to_row-says : (r : ℕ) → sentence_text (sentence 45 (Number r ∷ []))
    ≡ filled "    row %: " (decimal r ∷ [])
unfolding phrase book
to_row-says r = says 45 "    row %: " (Number r ∷ []) refl (omega arith)

pub closed-says : sentence_text (sentence 40 []) ≡ spelled "closed"
unfolding phrase book holes
closed-says = says_plain 40 "closed" refl refl

pub odd_kind-says : (k : ℕ) → sentence_text (sentence 43 (Number k ∷ []))
    ≡ filled "an entry of an unknown kind, %" (decimal k ∷ [])
unfolding phrase book
odd_kind-says k = says 43 "an entry of an unknown kind, %" (Number k ∷ []) refl (omega arith)

pub odd_entry-phrase : phrase 44 ≡ spelled "    an entry that can not be read"
unfolding phrase book
odd_entry-phrase = refl

-- what the sentences say
pub ruleset said = (
  odd_says,
  nack-says,
  activation_says,
  alive-says,
  status-says,
  mode_says,
  diagnostic-says,
  answered-says,
  handed_says,
  odd_payload-says,
  identity_says,
  to_sender-says,
  to_row-says,
  closed-says,
  odd_kind-says,
  rest_long,
  rest_whole,
)

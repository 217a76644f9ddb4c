-- `message::put_identity` meets its contract.
-- Assumes nothing.
use Rattle.std.proofs.Common.{ap, ◌∙◌}
use Rattle.words.specs.Sentence.{sentence_text}
use Rattle.words.proofs.SaidLaws.{said-is, said_more}
use Rattle.entries.specs.Messages.{identity_text}
use Rattle.entries.proofs.MessageLaws.{identity_says}
use Rattle.entries.proofs.message.put_identity.Goals as goal

pub returns : goal.returns
unfolding identity_text
returns c =
    let sentence = ap sentence_text c.with-s.ensures ∙ rw c.address.ensures (identity_says _) in
    let head = said_more (said-is sentence c.say-p.ensures) c.letters_of-q.ensures in
    said_more (said_more head c.words_bytes-r.ensures) c.words_bytes.ensures

-- `book::text` meets its contract.
-- Assumes nothing.
use Rattle.std.proofs.Common.{refl, ◌∙◌}
use Rattle.words.specs.Book.{book}
use Rattle.words.proofs.BookLaws.{text-phrase}
use Rattle.words.proofs.book.text.Goals as goal

pub returns : goal.returns
unfolding book
returns c = c.as_bytes.ensures.value ∙ c.nth.ensures ∙ text-phrase _ c.args.k refl

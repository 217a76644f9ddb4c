-- `book::nth` meets its contract.
-- Assumes nothing.
use Rattle.words.proofs.BookLaws.{text-at, text_past}
use Rattle.words.proofs.book.nth.Goals as goal

pub returns-in-Some : goal.returns-in-Some
returns-in-Some c = let there = c.in-Some.ensures.lookup in text-at c.args.texts.now c.args.k _ there.0 there.1

pub returns-in-None : goal.returns-in-None
returns-in-None c = text_past c.args.texts.now c.args.k c.in-None.ensures.lookup.0

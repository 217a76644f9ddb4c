-- `fill::say` meets its contract.
-- Assumes nothing.
use Rattle.std.proofs.Common.{ℕ, List, length, ap, map, arith}
use Rattle.words.specs.Book.{fill}
use Rattle.words.specs.Sentence.{arg_text}
use Rattle.words.proofs.SaidLaws.{said-is}
use Rattle.words.proofs.BookLaws.{phrase-short}
use Rattle.words.proofs.fill.say.Goals as goal

pub fill_in-requires : goal.fill_in-requires
fill_in-requires c = omega (arith, ap length c.text.ensures, phrase-short c.args.s.phrase)

pub returns : goal.returns
returns c = said-is (ap (λ (x : List ℕ). fill x (map arg_text c.args.s.args)) c.text.ensures) c.fill_in.ensures

-- `text::put_decimal` meets its contract.
-- Assumes nothing.
use Rattle.std.proofs.Common.{◌+◌, length, ◌∙◌, ap, arith}
use borrow.Author.Tests.{lt-ltb}
use Rattle.octets.specs.Put.{put_at}
use Rattle.lines.specs.Text.{most_digits}
use Rattle.lines.proofs.TextLaws.{decimal_of_std, wrote_one}
use Rattle.lines.proofs.text.put_decimal.Goals as goal

pub returns : goal.returns
returns c =
    let a = c.args in
    let text = c.as_bytes-digits.ensures.value ∙ c.format.ensures.text ∙ decimal_of_std a.n (omega arith) in
    record { put = c.put.ensures ∙ ap (put_at a.out.now a.at) text; after = ap (λ t. a.at + length t) text }

pub returns-then-n-lt10 : goal.returns-then-n-lt10
returns-then-n-lt10 c =
    let a = c.args in
    wrote_one most_digits a.n (48 + a.n) a.out.now a.at (omega arith) c.if-n-lt10.true (simp (lt-ltb a.n 10 c.if-n-lt10.true)) (omega arith)

-- `text::put_hex_byte` meets its contract.
-- Assumes nothing.
use Rattle.lines.proofs.text.put_hex_byte.Goals as goal

pub returns : goal.returns
returns c = rw (c.put.ensures, c.digit-2.ensures, c.digit.ensures)

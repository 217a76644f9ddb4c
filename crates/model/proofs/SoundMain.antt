-- The half `Sound` of rule 4 is kept: by settling, by every call, by the tick; a new farm has it; and every entry is on a row of its farm.
-- Assumes nothing.
use mathlib.Core.Path.{◌≡◌, subst}
use mathlib.Core.Bool.{true, false}
use Rattle.octets.specs.Search.{all}
use Rattle.model.specs.FarmSheet.{FarmSheet}
use Rattle.model.specs.Farm.{Farm, new_farm}
use Rattle.model.specs.Line.{settle}
use Rattle.model.specs.Move.{Own, Held, Given, gave, ticked, move, tick_move}
use Rattle.model.specs.Rule.{Good}
use Rattle.model.specs.History.{on_row}
use Rattle.model.proofs.RuleParts.{Sound, FarmOk, sound_of}
use Rattle.model.proofs.SoundLine.{settled_sound}
use Rattle.model.proofs.SoundMove.{KeepsSound, newly_sound, move_keeps, ticked_sound}
use Rattle.model.proofs.SoundItems.{MineBy, is_datagram, move_mine, ticked_mine}

-- A NEW FARM KEEPS THE RULES on rows and line, under every sheet.
pub new_sound : {own : FarmSheet} → Sound own new_farm
new_sound = newly_sound

-- SETTLING THE LINE KEEPS THEM, wherever it is done.
pub settle_sound : {own : FarmSheet} {f : Farm} → FarmOk own → Sound own f → Sound own (settle own f).farm
settle_sound ok s = settled_sound s

-- EVERY CALL THAT IS NOT REFUSED LEAVES A FARM THAT KEEPS THEM, if the farm kept rule 4 before.
pub move_sound : {own : FarmSheet} (h : Held) (c : Own) (g : Given) → FarmOk own → Good own h.farm → move own h c ≡ gave g → Sound own g.held.farm
move_sound {own} h c g ok k e = subst (KeepsSound own) e (move_keeps h c (sound_of k))

-- SO DOES EVERY TICK,
pub tick_sound : {own : FarmSheet} (f : Farm) → FarmOk own → Good own f → Sound own (ticked own f).farm
tick_sound f ok k = ticked_sound (sound_of k)

-- also in the form in which a table makes it.
pub tick_move_sound : {own : FarmSheet} (h : Held) (g : Given) → FarmOk own → Good own h.farm → tick_move own h ≡ gave g → Sound own g.held.farm
unfolding tick_move
tick_move_sound {own} h g ok k e = subst (KeepsSound own) e (tick_sound h.farm ok k)

-- EVERY ENTRY OF A CALL IS ON A ROW OF ITS FARM, but the reply to a datagram, which is on none.
pub items_own : {own : FarmSheet} (h : Held) (c : Own) (g : Given) → Good own h.farm → is_datagram c ≡ false → move own h c ≡ gave g
    → all (on_row own) g.items ≡ true
items_own {own} h c g k n e = subst (MineBy own) e (move_mine own h (sound_of k) c n)

-- SO IS EVERY ENTRY OF A TICK,
pub tick-items_own : {own : FarmSheet} (f : Farm) → Good own f → all (on_row own) (ticked own f).items ≡ true
tick-items_own {own} f k = ticked_mine own f (sound_of k)

-- also in the form in which a table makes it.
pub tick_move-items_own : {own : FarmSheet} (h : Held) (g : Given) → Good own h.farm → tick_move own h ≡ gave g → all (on_row own) g.items ≡ true
unfolding tick_move
tick_move-items_own {own} h g k e = subst (MineBy own) e (tick-items_own h.farm k)

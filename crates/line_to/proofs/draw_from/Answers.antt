-- `line_to::draw_from` meets its contract. Assumes nothing.
use mathlib.Core.Bool.{true}
use mathlib.Core.List.{List, []}
use mathlib.Core.Path.{◌≡◌, refl, ◌∙◌, ap}
use Prim.Native.Nat.{ℕ}
use borrow.Author.Rules.{rules}
use Rattle.gdi.specs.declared.Dc.{Dc}
use Rattle.gdi.specs.Record.{is_position}
use Rattle.std.proofs.lemmas.Result.{err_from_is_err_and}
use Rattle.numbers.specs.View.{view}
use Rattle.sound.proofs.Positions.{found_positioned}
use Rattle.place.specs.Place.{target_of}
use Rattle.place.proofs.Targets.{found_target, target_placed, target_dc}
use Rattle.canvas.specs.declared.Drawing.TheVariants.{Line}
use Rattle.plan.specs.Lines.{unless_far, line_on}
use Rattle.plan.proofs.Select.{moved_still}
use Rattle.plan.proofs.Followed.{refusal, updated_strokes}
use Rattle.draw.proofs.Targeted.{no_target, painted}
use Rattle.draw.proofs.Drawings.{in_colour, in_place}
use Rattle.line_to.proofs.Near.{tested, ends_near}
use Rattle.line_to.proofs.Moves.{if_near, if_far, line_on_lem, moved_in_place, moved_lent, moved_site}
use Rattle.line_to.proofs.draw_from.Goals as goal

pub set_position-requires : goal.set_position-requires
set_position-requires c =
    record {
      numbers_value = c.requires.lent.is_record_lem;
      dc_value = c.requires.dc_value;
    }

pub draw-requires : goal.draw-requires
draw-requires c =
    let l : List ℕ = c.args.numbers.now in
    let near : is_position c.args.to.x c.args.to.y ≡ true = tested c.args.to (search rules) (search rules) c.is_position.ensures c.if-not-is_position.false in
    let target : c.target_at.result ≡ target_of (view l) c.args.dc = found_target (view l) c.args.dc c.requires.dc_value c.target_at.ensures in
    let a = c.args in
    let sound = c.requires.lent.ready.sound in
    record {
      lent = moved_lent l a.dc a.to near c.set_position.ensures c.requires.lent;
      site_found = moved_site l a.dc a.to near c.set_position.ensures (target_placed (view l) sound a.dc target c.in_ok-target.was);
      drawable = rw c.position_of-from.ensures (ends_near a.d a.to (found_positioned (view l) a.dc sound c.requires.dc_value) near);
    }

pub returns : goal.returns
returns c =
    let l : List ℕ = c.args.numbers.now in
    let near : is_position c.args.to.x c.args.to.y ≡ true = tested c.args.to (search rules) (search rules) c.is_position.ensures c.if-not-is_position.false in
    let target : c.target_at.result ≡ target_of (view l) c.args.dc = found_target (view l) c.args.dc c.requires.dc_value c.target_at.ensures in
    let a = c.args in
    let b = view l in
    let line = Line c.position_of-from.result a.to in
    updated_strokes refl
    (painted (line_on_lem b a.dc a.to) target c.in_ok-target.was
    ∙ ap (λ (z : Dc). unless_far b a.to (line_on b a.dc a.to c.in_ok-target.target.id z)) (target_dc b a.p a.d c.target_at.ensures c.in_ok-target.was)
    ∙ if_near b a.to _ near ∙ rw (← c.position_of-from.ensures) refl)
    (moved_still b a.dc a.to near) c.set_position.ensures
    (in_place _ line [] (moved_in_place l a.dc a.to near c.set_position.ensures)
    (in_colour _ line [] c.colorref_to_rgb565-pen.ensures c.draw.ensures))

pub returns-in_err-target : goal.returns-in_err-target
returns-in_err-target c =
    let b = view c.args.numbers.now in
    let p = err_from_is_err_and c.from_residual.result c.from_residual.ensures.1 in
    rw (p.1, p.2) (refusal c.requires.lent.is_record_lem
    (no_target (line_on_lem b c.args.dc c.args.to) (found_target b c.args.dc c.requires.dc_value c.target_at.ensures) _ c.in_err-target.was))

pub returns-then-not-is_position : goal.returns-then-not-is_position
returns-then-not-is_position c =
    let b = view c.args.numbers.now in
    refusal c.requires.lent.is_record_lem
    (painted (line_on_lem b c.args.dc c.args.to) (found_target b c.args.dc c.requires.dc_value c.target_at.ensures) c.in_ok-target.was
    ∙ if_far b c.args.to _ (tested c.args.to (search rules) (search rules) c.is_position.ensures c.if-not-is_position.true))

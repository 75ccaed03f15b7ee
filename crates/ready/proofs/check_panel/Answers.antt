-- `ready::check_panel` meets its contract. Assumes nothing.
use mathlib.Core.Path.{sym, ◌∙◌, refl}
use native.Mathlib.Omega.{arith}
use Rattle.arithmetic.proofs.Test.{both}
use Rattle.numbers.specs.Layout.{panel_len_place}
use Rattle.numbers.specs.View.{view, is_record}
use Rattle.numbers.proofs.Seen.{record_length, panel_len_seen}
use Rattle.sound.specs.Sound.{is_sound}
use Rattle.ready.proofs.Ready.{no_sound_record, of_record, other_panel, none_other}
use Rattle.ready.proofs.check_panel.Goals as goal

pub returns-then-not-is_sound : goal.returns-then-not-is_sound
returns-then-not-is_sound c =
    no_sound_record _ _ _ (sym c.is_sound.ensures ∙ c.if-not-is_sound.true)

pub bounds-numbers-0 : goal.bounds-numbers-0
bounds-numbers-0 c =
    omega (arith, record_length c.args.numbers.now (both (is_record c.args.numbers.now) (is_sound (view c.args.numbers.now)) (sym c.is_sound.ensures ∙ c.if-not-is_sound.false)).0)

pub overflow_cast-numbers : goal.overflow_cast-numbers
overflow_cast-numbers c =
    omega (arith, c.shared_slice_known-2-1.given panel_len_place)

pub returns-then-panel_len-numbers : goal.returns-then-panel_len-numbers
returns-then-panel_len-numbers c =
    of_record c.args.numbers.now _ _ (sym c.is_sound.ensures ∙ c.if-not-is_sound.false) (λ s. other_panel _ _ _ s (λ e. c.if-panel_len-numbers.true (e ∙ panel_len_seen c.args.numbers.now)))

pub returns : goal.returns
returns c =
    of_record c.args.numbers.now _ _ (sym c.is_sound.ensures ∙ c.if-not-is_sound.false) (λ s. none_other _ _ _ s (c.if-panel_len-numbers.false ∙ sym (panel_len_seen c.args.numbers.now)) refl)

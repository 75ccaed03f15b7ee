-- Settings: one field of one DC.
use Rattle.std.specs.Prelude.{Bool, ℕ, Option, Some, None}
use Rattle.color.specs.declared.Colorref.{Colorref}
use Rattle.gdi.specs.declared.Spot.{Spot}
use Rattle.gdi.specs.declared.GdiState.{GdiState}
use Rattle.gdi.specs.declared.Dc.{Dc}
use Rattle.gdi.specs.Lookup.{dc_of}
use Rattle.gdi.specs.Updates.{with_dc, with_text_color, with_text_align, with_bk_color, with_bk_mode}
use Rattle.plan.specs.Answer.{Parts, answered, flagged}
use Rattle.plan.specs.Plan.{Plan, record_only, refuse}

-- the plan for what the lookup of the DC found
abbrev pub setting_at : (old : Dc → Parts) (new : Dc → Dc) → GdiState → ℕ → Option (Spot × Dc) → Plan
setting_at old new b dc (Some (p, d)) = record_only (with_dc b dc p (new d)) (old d)
setting_at old new b dc None = refuse 1 b

-- a setting changes one field of one DC record and answers the old value; 1 if there is no such DC
unfoldable pub setting : (old : Dc → Parts) (new : Dc → Dc) → GdiState → ℕ → Plan
setting old new b dc = setting_at old new b dc (dc_of b dc)

abbrev pub set_text_color : GdiState → ℕ → Colorref → Plan
set_text_color b dc c = setting (λ d. answered d.text_color.0) (λ d. with_text_color d c) b dc

abbrev pub set_text_align : GdiState → ℕ → ℕ → Plan
set_text_align b dc v = setting (λ d. answered d.text_align) (λ d. with_text_align d v) b dc

abbrev pub set_bk_color : GdiState → ℕ → Colorref → Plan
set_bk_color b dc c = setting (λ d. answered d.bk_color.0) (λ d. with_bk_color d c) b dc

abbrev pub set_bk_mode : GdiState → ℕ → Bool → Plan
set_bk_mode b dc t = setting (λ d. flagged d.bk_transparent) (λ d. with_bk_mode d t) b dc

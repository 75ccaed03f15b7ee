-- Definitions that only inner functions cite: no exported contract reaches them.
-- What the search for a surface ensures.
use Rattle.std.specs.Prelude.{◌≡◌, ℕ}
use Rattle.gdi.specs.declared.GdiState.{GdiState}
use Rattle.gdi.specs.Lookup.{find_of}
use Rattle.place.specs.declared.Site.{Site}
use Rattle.place.specs.declared.SurfaceId.{SurfaceId}
use Rattle.place.specs.Place.{live, locate, site_of, Within}

-- r is the site of the created bitmap, inside its memory
pub record Located (b : GdiState) (h : ℕ) (r : Site) : Type 0 where
  pub same : r ≡ record { at = locate (live b) 2 h; slot = find_of b h }
  pub within : Within b.panel_len b.store_len r.at

-- r is the site of the surface, inside its memory
pub record SiteFound (b : GdiState) (s : SurfaceId) (r : Site) : Type 0 where
  pub same : r ≡ site_of b s
  pub within : Within b.panel_len b.store_len r.at

-- `surface_operations::fill_rect` meets its contract: it takes the surface apart and calls `fill::fill_rect`. Assumes nothing.
use contract.Running.{tables, tables_of}
use denote.Triple.Spec.{triple_of}
use denote.Triple.Table.{entered}
use Rattle.surface_operations.proofs.Drawings.{fills}
use Rattle.surface_struct.proofs.Operation.{it_says}
use Rattle.surface_struct.proofs.Walks.{apart_meets}
use Rattle.fill.proofs.fill_rect.Symbol as callee
use Rattle.fill.proofs.fill_rect.Met as callee_thm
use Rattle.surface_operations.specs.contracts.fill_rect.Key as key
use Rattle.surface_operations.specs.contracts.fill_rect as f
use Rattle.surface_operations.proofs.fill_rect.Statement as stated
use Rattle.surface_operations.proofs.fill_rect.Code as code

pub fill_rect_spec : {M : Type 1} → stated.statement M
unfolding tables_of
fill_rect_spec 𝓤 𝓛 𝓜 𝓡 wired =
    let T = tables 𝓤 𝓛.H 𝓜 𝓡 𝓡.env in
    entered 𝓤 𝓛.H (triple_of 𝓛 f.signature (f.spec 𝓛 𝓜.mem 𝓡.returns)) T.C T.Λ key.name code.function (code.unfolded 𝓤 𝓛.H 𝓜 𝓡 wired)
    (apart_meets 𝓛 fills callee.name (tables_of 𝓤 𝓛.H 𝓜 T) (f.clauses 𝓛 𝓜.mem 𝓡.returns) (λ κs a g r zs done. it_says 𝓤 done)
    (callee_thm.met 𝓤 𝓛 𝓜 𝓡 (code.calls-fill::fill_rect 𝓡.env wired)))

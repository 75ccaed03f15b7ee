-- `surface_operations::draw_char` meets its contract: it takes the surface apart and calls `text::draw_char`. Assumes nothing.
use contract.Running.{tables, tables_of}
use denote.Triple.Spec.{triple_of}
use denote.Triple.Table.{entered}
use Rattle.surface_operations.proofs.Drawings.{draws_char}
use Rattle.surface_struct.proofs.Operation.{it_says}
use Rattle.surface_struct.proofs.Walks.{apart_meets}
use Rattle.text.proofs.draw_char.Symbol as callee
use Rattle.text.proofs.draw_char.Met as callee_thm
use Rattle.surface_operations.specs.contracts.draw_char.Key as key
use Rattle.surface_operations.specs.contracts.draw_char as f
use Rattle.surface_operations.proofs.draw_char.Statement as stated
use Rattle.surface_operations.proofs.draw_char.Code as code

pub draw_char_spec : {M : Type 1} → stated.statement M
unfolding tables_of
draw_char_spec 𝓤 𝓛 𝓜 𝓡 wired =
    let T = tables 𝓤 𝓛.H 𝓜 𝓡 𝓡.env in
    entered 𝓤 𝓛.H (triple_of 𝓛 f.signature (f.spec 𝓛 𝓜.mem 𝓡.returns)) T.C T.Λ key.name code.function (code.unfolded 𝓤 𝓛.H 𝓜 𝓡 wired)
    (apart_meets 𝓛 draws_char callee.name (tables_of 𝓤 𝓛.H 𝓜 T) (f.clauses 𝓛 𝓜.mem 𝓡.returns) (λ κs a g r zs done. it_says 𝓤 done)
    (callee_thm.met 𝓤 𝓛 𝓜 𝓡 (code.calls-text::draw_char 𝓡.env wired)))

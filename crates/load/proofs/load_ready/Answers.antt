-- `load::load_ready` meets its contract. Assumes nothing.
use native.Mathlib.Omega.{arith}
use Rattle.numbers.specs.View.{view}
use Rattle.numbers.proofs.Record.{parts}
use Rattle.plan.proofs.Followed.{refusal}
use Rattle.load.proofs.Table.{table_is_complete}
use Rattle.load.proofs.Loaded.{not_table, short_panel, short_store, table_loaded}
use Rattle.load.proofs.load_ready.Goals as goal
use Rattle.load.proofs.load_ready.Goals.{then-sizes-panel-via-then-sizes-panel, then-sizes-panel-via-else-sizes-panel+then-sizes-store}

pub returns-in_default : goal.returns-in_default
returns-in_default c =
    refusal c.requires.is_record_lem (not_table c.args.numbers.now c.args.bytes.now c.requires c.in_default.ensures)

pub returns-then-sizes-panel : goal.returns-then-sizes-panel
returns-then-sizes-panel c =
    refusal c.requires.is_record_lem (elim c.then-sizes-panel.branch [
      | then-sizes-panel-via-then-sizes-panel w ↦ short_panel c.args.numbers.now c.args.bytes.now c.requires c.in-Some.ensures w.if-sizes-panel.true
      | then-sizes-panel-via-else-sizes-panel+then-sizes-store w ↦ short_store c.args.numbers.now c.args.bytes.now c.requires c.in-Some.ensures w.if-sizes-store.true
    ])

pub overflow_sub-store : goal.overflow_sub-store
overflow_sub-store c =
    omega (arith, c.in-Some.ensures.end (view c.args.numbers.now))

pub zero-requires-2 : goal.zero-requires-2
zero-requires-2 c =
    omega (arith, c.in-Some.ensures.end (view c.args.numbers.now))

pub read_table-requires : goal.read_table-requires
read_table-requires c =
    let p = parts c.args.numbers.now c.requires.is_record_lem in
    record {
      bytes_value = table_is_complete (view c.args.numbers.now) c.args.bytes.now (c.in-Some.ensures.table (view c.args.numbers.now));
      numbers_len = p.long;
      stock_dirty_place_bound = p.flag;
    }

pub returns : goal.returns
returns c =
    table_loaded c.args.numbers.now c.args.bytes.now c.requires c.in-Some.ensures c.if-sizes-panel.false c.if-sizes-store.false c.zero.ensures c.zero-2.ensures c.read_table.ensures c.mark_dirty.ensures

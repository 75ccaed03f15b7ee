-- `transfer::blit_at` meets its contract. Assumes nothing.
use Rattle.rop3.specs.Rop3.{table_of}
use Rattle.place.specs.declared.Memory.TheVariants.{Panel, Store}
use Rattle.paint.specs.Memories.{Memories, memories}
use Rattle.transfer.proofs.Arms.{both_inside, side_panel, side_store, to_nowhere, from_nowhere, drawn}
use Rattle.transfer.proofs.blit_at.Goals as goal

pub blit_inside-requires : goal.blit_inside-requires
blit_inside-requires c =
    let e = c.in-At.is in
    let f = c.in-At-src.is in
    let g = c.in-Panel.is in
    let h = c.in-Panel-n.is in
    record {
      inside = both_inside e f _ _ c.requires.within Panel Panel g h;
      same_or_apart = side_panel e f c.requires.places_apart g h;
    }

pub blit_between-requires : goal.blit_between-requires
blit_between-requires c =
    let e = c.in-At.is in
    let f = c.in-At-src.is in
    let g = c.in-Panel.is in
    let h = c.in-Store-n.is in
    both_inside e f _ _ c.requires.within Panel Store g h

pub blit_between-requires-in-Panel-n-2 : goal.blit_between-requires-in-Panel-n-2
blit_between-requires-in-Panel-n-2 c =
    let e = c.in-At.is in
    let f = c.in-At-src.is in
    let g = c.in-Store.is in
    let h = c.in-Panel-n-2.is in
    both_inside e f _ _ c.requires.within Store Panel g h

pub blit_inside-requires-in-Store-n-2 : goal.blit_inside-requires-in-Store-n-2
blit_inside-requires-in-Store-n-2 c =
    let e = c.in-At.is in
    let f = c.in-At-src.is in
    let g = c.in-Store.is in
    let h = c.in-Store-n-2.is in
    record {
      inside = both_inside e f _ _ c.requires.within Store Store g h;
      same_or_apart = side_store e f c.requires.places_apart g h;
    }

pub returns-in-Nowhere : goal.returns-in-Nowhere
returns-in-Nowhere c =
    let lent : Memories = memories c.args.panel.now c.args.store.now in
    let a = c.args in
    let r = to_nowhere lent a.src a.area a.from (table_of a.rop) a.pat.0 c.in-Nowhere.is in
    record { value = r.0; bytes = r.1 }

pub returns-in-Nowhere-src : goal.returns-in-Nowhere-src
returns-in-Nowhere-src c =
    let lent : Memories = memories c.args.panel.now c.args.store.now in
    let a = c.args in
    let r = from_nowhere lent a.src a.area a.from (table_of a.rop) a.pat.0 c.in-At.is c.in-Nowhere-src.is in
    record { value = r.0; bytes = r.1 }

pub returns-in-Panel-n : goal.returns-in-Panel-n
returns-in-Panel-n c =
    let lent : Memories = memories c.args.panel.now c.args.store.now in
    let a = c.args in
    let e = c.in-At.is in
    let f = c.in-At-src.is in
    let g = c.in-Panel.is in
    let h = c.in-Panel-n.is in
    let r = drawn lent a.src a.area a.from (table_of a.rop) a.pat.0 e f Panel Panel g h (c.blit_inside.ensures.value, c.blit_inside.ensures.bytes) in
    record { value = r.0; bytes = r.1 }

pub returns-in-Store-n : goal.returns-in-Store-n
returns-in-Store-n c =
    let lent : Memories = memories c.args.panel.now c.args.store.now in
    let a = c.args in
    let e = c.in-At.is in
    let f = c.in-At-src.is in
    let g = c.in-Panel.is in
    let h = c.in-Store-n.is in
    let r = drawn lent a.src a.area a.from (table_of a.rop) a.pat.0 e f Panel Store g h (c.blit_between.ensures.value, c.blit_between.ensures.bytes) in
    record { value = r.0; bytes = r.1 }

pub returns-in-Panel-n-2 : goal.returns-in-Panel-n-2
returns-in-Panel-n-2 c =
    let lent : Memories = memories c.args.panel.now c.args.store.now in
    let a = c.args in
    let e = c.in-At.is in
    let f = c.in-At-src.is in
    let g = c.in-Store.is in
    let h = c.in-Panel-n-2.is in
    let r = drawn lent a.src a.area a.from (table_of a.rop) a.pat.0 e f Store Panel g h (c.blit_between-in-Panel-n-2.ensures.value, c.blit_between-in-Panel-n-2.ensures.bytes) in
    record { value = r.0; bytes = r.1 }

pub returns-in-Store-n-2 : goal.returns-in-Store-n-2
returns-in-Store-n-2 c =
    let lent : Memories = memories c.args.panel.now c.args.store.now in
    let a = c.args in
    let e = c.in-At.is in
    let f = c.in-At-src.is in
    let g = c.in-Store.is in
    let h = c.in-Store-n-2.is in
    let r = drawn lent a.src a.area a.from (table_of a.rop) a.pat.0 e f Store Store g h (c.blit_inside-in-Store-n-2.ensures.value, c.blit_inside-in-Store-n-2.ensures.bytes) in
    record { value = r.0; bytes = r.1 }

-- `create::make` meets its contract. Assumes nothing.
use native.Mathlib.Omega.{arith}
use Rattle.sound.proofs.Sound.{parts}
use Rattle.create.proofs.Made.{full, short, new}
use Rattle.create.proofs.make.Goals as goal

-- the table is full
pub returns-then-count-ge-MAX_OBJECTS : goal.returns-then-count-ge-MAX_OBJECTS
returns-then-count-ge-MAX_OBJECTS c =
    λ panel. full _ c.requires.lent.is_record_lem _ (omega arith) _

pub start_of-start-requires-clause-numbers_value_2 : goal.start_of-start-requires-clause-numbers_value_2
start_of-start-requires-clause-numbers_value_2 c = (parts _ c.requires.lent.ready.sound).slots

-- the store is full
pub returns-then-start-n : goal.returns-then-start-n
returns-then-start-n c =
    λ panel. short _ c.requires.lent.is_record_lem _ (omega arith) c.start_of-start.ensures.value c.object_bytes-n.ensures (omega arith) _

-- the object is appended
pub returns : goal.returns
returns c =
    λ panel. new _ c.requires.lent.is_record_lem _ (omega arith) c.start_of-start.ensures.value c.object_bytes-n.ensures (omega arith) c.zero.ensures c.alloc_handle-h.ensures c.append.ensures panel

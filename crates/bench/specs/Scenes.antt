-- The rows that a book holds while verdicts are measured: which number each has.
use Rattle.std.specs.Prelude.{ℕ, ◌+◌, ◌*◌, cond, ◌==◌, slice_index}
use Rattle.store.specs.declared.row.Row.{Row}
use Rattle.bench.specs.declared.scene.Scene.{Scene}
use Rattle.bench.specs.declared.scene.Scene.TheVariants.{Rivals, MoreRivals, Crowd, Twos, Three, Behind}

abbrev pub pad_of : Row → ℕ
pad_of row = slice_index row.columns 0

abbrev pub slot_of : Row → ℕ
slot_of row = slice_index row.columns 1

abbrev pub club_of : Row → ℕ
club_of row = slice_index row.columns 2

-- among the clubs that want one pad
abbrev pub rival_number : Row → ℕ
rival_number row = 45 * slot_of row + club_of row

-- in a crowd, where held and void pads are told by their pad alone
abbrev pub crowd_number : Row → ℕ
crowd_number row =
    cond (row.relation == 3) (128 * slot_of row + (16 * pad_of row + club_of row))
    (cond (row.relation == 4) (32 * slot_of row + pad_of row)
    (cond (row.relation == 1) (8 * pad_of row + 3) (8 * pad_of row + 7)))

-- of parties on several pads, and of rows at slots of their own
abbrev pub backed_number : Row → ℕ
backed_number row = cond (row.relation == 3) (pad_of row) (slot_of row)

-- the number that a row has in a scene
abbrev pub number_of : Scene → Row → ℕ
number_of Rivals = rival_number
number_of MoreRivals = rival_number
number_of Crowd = crowd_number
number_of Twos = backed_number
number_of Three = backed_number
number_of Behind = backed_number

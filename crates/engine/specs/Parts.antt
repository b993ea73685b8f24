-- What is written of a module that is taken apart, and of one that is put together.
use Rattle.std.specs.Prelude.{ℕ, ◌/◌, ◌%◌, List, [], ◌∷◌, ◌++◌, map, length, Ok, Err, Result, min}
use Rattle.std.specs.List.{flat_map}
use Rattle.refusal.specs.Values.{Values}
use Rattle.isa.specs.declared.row.Row.{Row}
use Rattle.module.specs.declared.entry.Entry.{Entry}
use Rattle.module.specs.Contents.{image}
use Rattle.module.specs.Verdict.{checking}
use Rattle.packing.specs.Pack.{packing, output_after}
use Rattle.packing.specs.Unpack.{unpacking, entries_after, rows_after}
use Rattle.engine.specs.declared.field.Field.{Field}
use Rattle.engine.specs.declared.field.Field.TheVariants.{One, Four}
use Rattle.engine.specs.Fields.{refused_fields, entry_fields, instruction_fields}
use Rattle.engine.specs.Given.{entries_in, instructions_in}
use Rattle.engine.specs.Lent.{lent, lent_byte, lent_entry, lent_row}
use Rattle.engine.specs.Whole.{unless_refused, most_rows}

-- the most entries and the most rows that are lent
abbrev pub most_lent_entries : ℕ
most_lent_entries = 64

abbrev pub most_lent_rows : ℕ
most_lent_rows = 4096

-- what unpack answered: how many entries and rows there are, or the refusal
abbrev pub sizes_fields : Result (ℕ × ℕ) Values → List Field
sizes_fields (Ok sizes) = One 0 ∷ Four (sizes.0 % 4294967296) ∷ Four (sizes.1 % 4294967296) ∷ []
sizes_fields (Err e) = refused_fields e

-- of an accepted module bs, unpacked into these entries and rows: the answer, all entries and rows as they are then, and the
-- image
abbrev pub taken_apart_fields : List ℕ → List Entry → List Row → List Field
taken_apart_fields bs es rs =
    sizes_fields (unpacking bs (length es) (length rs))
    ++ (flat_map entry_fields (entries_after bs es rs) ++ (flat_map instruction_fields (rows_after bs es rs) ++ map One (image bs)))

-- the same, if open and check accept the module bs
abbrev pub lent_fields : List ℕ → List Entry → List Row → List Field
lent_fields bs es rs = unless_refused (checking bs most_rows) (taken_apart_fields bs es rs)

-- what bench_unpack writes, of so many entries and rows that are lent
abbrev pub unpacked_fields : List ℕ → ℕ → ℕ → List Field
unpacked_fields bs es rs =
    lent_fields bs (lent lent_entry most_lent_entries es) (lent lent_row most_lent_rows rs)

-- what pack answered: the length, or the refusal
abbrev pub length_fields : Result ℕ Values → List Field
length_fields (Ok n) = One 0 ∷ Four (n % 4294967296) ∷ []
length_fields (Err e) = refused_fields e

-- of entries, rows and an image that are packed into this output: the answer, and the whole output as it is then
abbrev pub put_together_fields : List Entry → List Row → List ℕ → List ℕ → List Field
put_together_fields es rs im out = length_fields (packing es rs im (length out)) ++ map One (output_after es rs im out)

-- the most entries and instructions that are read
abbrev pub most_given_entries : ℕ
most_given_entries = 128

abbrev pub most_given_instructions : ℕ
most_given_instructions = 8192

-- the entries and the instructions that stand in these bytes
abbrev pub given_entries : List ℕ → List Entry
given_entries bs = entries_in bs (min (length bs / 4) most_given_entries)

abbrev pub given_instructions : List ℕ → List Row
given_instructions bs = instructions_in bs (min (length bs / 8) most_given_instructions)

-- the longest output that pack is lent
abbrev pub most_output : ℕ
most_output = 40000

-- what bench_pack writes, by the bytes that it is given, of an output of so many bytes
abbrev pub packed_fields : List ℕ → List ℕ → List ℕ → ℕ → List Field
packed_fields entries rows image size =
    put_together_fields (given_entries entries) (given_instructions rows) image (lent lent_byte most_output size)

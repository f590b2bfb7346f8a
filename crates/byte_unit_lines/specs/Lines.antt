-- The lines of an input, which is a list of bytes. They are the records that end at the byte 0A.
use Rattle.std.specs.Prelude.{ℕ, List}
use Rattle.byte_unit_stream.specs.Records.{records_of, finished_records}

-- the byte that ends a line
abbrev pub line_end : ℕ
line_end = 10

-- the lines of an input: a last line without a line end is one too, if it is not empty
abbrev pub lines_of : List ℕ → List (List ℕ)
lines_of bytes = records_of line_end bytes

-- the lines of an input that have a line end
abbrev pub finished_lines : List ℕ → List (List ℕ)
finished_lines bytes = finished_records line_end bytes

-- What a contract sees of a `Reading` and of a `Writing`. The bytes that a reader has left are
-- `Read::remaining`, those that a writer holds `Write::contents`. Both are `None` for a stream whose bytes no contract
-- knows, such as standard input: of such a stream the words below say nothing.
use Rattle.std.specs.Prelude.{ℕ, ◌-◌, ◌^◌, Bool, true, false, Option, Some, None, is_some, List}
use Rattle.std.specs.Io.KnownBytes.{Appends, Consumes, IsAtEnd, Keeps}
use Rattle.byte_unit_stream.specs.declared.reader.Reading.{Reading}
use Rattle.byte_unit_stream.specs.declared.writer.Failure.{Failure}
use Rattle.byte_unit_stream.specs.declared.writer.Failure.TheVariants.{Closed, Other}
use Rattle.byte_unit_stream.specs.declared.writer.Writing.{Writing}

-- the reader inside a `Reading`
abbrev pub reader_of : {R : Type 0} → Reading R → R
reader_of reader = reader.inner

-- whether a read has failed
abbrev pub reading_failed : {R : Type 0} → Reading R → Bool
reading_failed reader = reader.failed

-- how many more reads a `Reading` allows
abbrev pub reads_left : {R : Type 0} → Reading R → ℕ
reads_left reader = 2 ^ 64 - 1 - reader.count

-- from the old state to the new one, exactly these bytes were read
abbrev pub HasRead : {R : Type 0} → (R → Option (List ℕ)) → Reading R → Reading R → List ℕ → Type 0
HasRead remaining old new read = Consumes (remaining old.inner) (remaining new.inner) read

-- from the old state to the new one, nothing was read
abbrev pub HasReadNothing : {R : Type 0} → (R → Option (List ℕ)) → Reading R → Reading R → Type 0
HasReadNothing remaining old new = Keeps (remaining old.inner) (remaining new.inner)

-- the reader has no bytes left
abbrev pub HasReadAll : {R : Type 0} → (R → Option (List ℕ)) → Reading R → Type 0
HasReadAll remaining reader = IsAtEnd (remaining reader.inner)

-- the writer inside a `Writing`
abbrev pub writer_of : {W : Type 0} → Writing W → W
writer_of writer = writer.inner

-- whether a write has failed
abbrev pub writing_failed : {W : Type 0} → Writing W → Bool
writing_failed writer = is_some writer.failure

-- whether this is the failure of a write after the reader of the output has gone
abbrev pub is_closed : Option Failure → Bool
is_closed (Some Closed) = true
is_closed (Some Other) = false
is_closed None = false

-- whether a write has failed because the reader of the output has gone
abbrev pub output_closed : {W : Type 0} → Writing W → Bool
output_closed writer = is_closed writer.failure

-- from the old state to the new one, exactly these bytes were written
abbrev pub HasWritten : {W : Type 0} → (W → Option (List ℕ)) → Writing W → Writing W → List ℕ → Type 0
HasWritten contents old new written = Appends (contents old.inner) (contents new.inner) written

-- from the old state to the new one, nothing was written
abbrev pub HasWrittenNothing : {W : Type 0} → (W → Option (List ℕ)) → Writing W → Writing W → Type 0
HasWrittenNothing contents old new = Keeps (contents old.inner) (contents new.inner)

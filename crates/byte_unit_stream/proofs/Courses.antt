-- Lemmas: what is read, written and told, call by call.
use Rattle.std.specs.Prelude.{IsTrue}
use Rattle.std.proofs.Common.{◌≡◌, ℕ, Bool, true, false, List, [], ◌++◌, Option, refl, sym, ap, subst, ◌∙◌, append-nil}
use Rattle.std.proofs.KnownBytes.{Appends-nil, Appends-trans, Consumes-kept, Consumes-nil, Consumes-trans}
use Rattle.byte_unit_stream.specs.Beginnings.{IsBeginningOf}
use Rattle.byte_unit_stream.specs.Runs.{Course, HasTold, IsTold}
use Rattle.byte_unit_stream.specs.RecordSteps.{Progress, Relation, start_at}
use Rattle.byte_unit_stream.specs.Streams.{HasRead, HasReadNothing, HasWritten, reader_of, writer_of, writing_failed}
use Rattle.byte_unit_stream.specs.declared.reader.Reading.{Reading}
use Rattle.byte_unit_stream.specs.declared.writer.Writing.{Writing}
use Rattle.byte_unit_stream.proofs.Beginnings.{IsBeginningOf-longer, IsBeginningOf-after}
use Rattle.byte_unit_stream.proofs.Bytes.{Consumes-at_end}
use Rattle.byte_unit_stream.proofs.Runs.{IsServed}

-- what is told of some messages and then of more is what is told of both lists joined; `before` and `after` say
-- whether a write had failed by then
pub IsTold-more : (before after : Bool) (messages more told rest : List ℕ) → IsTold before messages told
    → IsTold after more rest → (IsTrue before → (rest ≡ []) × IsTrue after) → IsTold after (messages ++ more) (told ++ rest)
IsTold-more true after messages more told rest so_far tells nothing_after =
    let stays = nothing_after refl in
    let nothing : told ++ rest ≡ told = ap (λ rest. told ++ rest) stays.0 ∙ append-nil told in record {
      begins = subst (λ told. IsBeginningOf told (messages ++ more)) (sym nothing)
          (IsBeginningOf-longer told messages more so_far.begins);
      all = λ is. cc;
    }
IsTold-more false after messages more told rest so_far tells _ =
    let same = so_far.all refl in record {
      begins =
          subst (λ told. IsBeginningOf (told ++ rest) (messages ++ more)) (sym same)
          (IsBeginningOf-after messages rest more tells.begins);
      all = λ is. ap (λ told. told ++ rest) same ∙ ap (λ rest. messages ++ rest) (tells.all is);
    }

module _ {R W E : Type 0} {remaining : R → Option (List ℕ)} {contents : W → Option (List ℕ)}
    {tells : E → Option (List ℕ)} where
  -- before the first call
  abbrev pub Course-start : (reader : Reading R) (writer : Writing W) (errors : Writing E)
      → Course remaining contents tells reader reader writer writer errors errors
  Course-start reader writer errors = record {
    read = [];
    written = [];
    messages = [];
    told = [];
    has_read = Consumes-nil (remaining (reader_of reader));
    has_written = Appends-nil (contents (writer_of writer));
    has_told = Appends-nil (tells (writer_of errors));
    is_told = record { begins = ([], refl); all = λ is. refl };
  }

  module _ {old_reader reader : Reading R} {old_writer writer : Writing W} {old_errors errors : Writing E}
      (course : Course remaining contents tells old_reader reader old_writer writer old_errors errors) where
    -- after a read, if these bytes were read by then
    abbrev Course-after : (next : Reading R) (read : List ℕ) → HasRead remaining old_reader next read
        → Course remaining contents tells old_reader next old_writer writer old_errors errors
    Course-after next read has_read = record {
      read = read;
      written = course.written;
      messages = course.messages;
      told = course.told;
      has_read = has_read;
      has_written = course.has_written;
      has_told = course.has_told;
      is_told = course.is_told;
    }

    -- after a read of a piece
    abbrev pub Course-read : (next : Reading R) (piece : List ℕ) → HasRead remaining reader next piece
        → Course remaining contents tells old_reader next old_writer writer old_errors errors
    Course-read next piece came =
        Course-after next (course.read ++ piece) (Consumes-trans _ _ _ course.read piece course.has_read came)

    -- after a read that failed
    abbrev pub Course-failed : (next : Reading R) → HasReadNothing remaining reader next
        → Course remaining contents tells old_reader next old_writer writer old_errors errors
    Course-failed next nothing =
        Course-after next course.read (Consumes-kept _ _ _ course.read course.has_read nothing)

    -- after a read at the end of the input
    abbrev pub Course-end : (next : Reading R) (piece : List ℕ) → HasRead remaining reader next piece → piece ≡ []
        → Course remaining contents tells old_reader next old_writer writer old_errors errors
    Course-end next piece came none =
        Course-after next course.read (Consumes-at_end _ _ _ course.read piece course.has_read came none)

    -- after a write
    abbrev pub Course-wrote : (next : Writing W) (more : List ℕ) → HasWritten contents writer next more
        → Course remaining contents tells old_reader reader old_writer next old_errors errors
    Course-wrote next more took = record {
      read = course.read;
      written = course.written ++ more;
      messages = course.messages;
      told = course.told;
      has_read = course.has_read;
      has_written = Appends-trans _ _ _ course.written more course.has_written took;
      has_told = course.has_told;
      is_told = course.is_told;
    }

    -- after more messages were told
    abbrev pub Course-told : (next : Writing E) (more : List ℕ) → HasTold tells errors next more
        → Course remaining contents tells old_reader reader old_writer writer old_errors next
    Course-told next more tell = record {
      read = course.read;
      written = course.written;
      messages = course.messages ++ more;
      told = course.told ++ tell.0;
      has_read = course.has_read;
      has_written = course.has_written;
      has_told = Appends-trans _ _ _ course.told tell.0 course.has_told tell.1;
      is_told = IsTold-more (writing_failed errors) (writing_failed next) course.messages more course.told tell.0
          course.is_told tell.2 tell.3;
    }

-- the invariant of the loop: what was read is served, and nothing waits to be written or told
pub record HasServed {S X R W E : Type 0} (remaining : R → Option (List ℕ)) (contents : W → Option (List ℕ))
    (tells : E → Option (List ℕ)) (relation : Relation S X) (end : ℕ) (start : S) (old_reader reader : Reading R)
    (old_writer writer : Writing W) (old_errors errors : Writing E) (now : Progress S) (part : List ℕ) : Type 0 where
  pub course : Course remaining contents tells old_reader reader old_writer writer old_errors errors
  pub served : IsServed relation end start course.read course.written course.messages part now.state
  pub none_waits : now ≡ start_at now.state

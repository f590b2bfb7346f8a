-- Each read is served: the records that end in it are converted, and the part of the record that it has begun is kept.
use Rattle.std.proofs.Common.{Err, take, arith, ap, subst, sym, ◌∙◌}
use Rattle.byte_unit_stream.specs.Beginnings.{IsBeginningOf}
use Rattle.byte_unit_stream.specs.Chunks.{ended_records}
use Rattle.byte_unit_stream.specs.RecordSteps.{AreConverted, IsStep, start_at}
use Rattle.byte_unit_stream.specs.Streams.{HasReadAll}
use Rattle.byte_unit_stream.proofs.Courses.{Course-end, Course-failed, Course-read, Course-start, Course-told, Course-wrote}
use Rattle.byte_unit_stream.proofs.Runs.{IsAll-now, IsLeft-end, IsLeft-last, IsLeft-piece, IsLeft-unwritten}
use Rattle.byte_unit_stream.proofs.Runs.{IsServed, IsServed-piece}
use Rattle.byte_unit_stream.proofs.RecordSteps.{start_at-state}
use Rattle.byte_unit_stream.proofs.run.run_steps.Goals as goal

-- the invariant holds at the start: nothing is read, and the buffers were cleared
pub reads-init : goal.reads-init
reads-init g c =
    let start = (g.S.RecordSteps.at c.args.steps.now).state in
    let now = g.S.RecordSteps.at c.clear-2.new.self in (
      record {
        course = Course-start _ _ _;
        served = record {
          steps = ap (λ now. start_at now.state) c.clear-2.ensures.at;
          begun = c.clear.ensures.items;
        };
        none_waits = start_at-state now start c.clear-2.ensures.at;
      },
      c.clear-2.ensures.same_end ∙ c.requires.end,
    )

-- a read failed: what is written and told is that of all finished records
pub returns-in-None-clause-run : goal.returns-in-None-clause-run
returns-in-None-clause-run g c =
    let so_far = c.reads.invariant.0 in (
      Course-failed so_far.course c.read.new.self c.in-None.ensures.none,
      IsAll-now so_far.served,
    )

-- the write of what a chunk gave has failed: a beginning of it is written, and nothing is told
pub returns-in-Err-clause-run : goal.returns-in-Err-clause-run
returns-in-Err-clause-run g c =
    let so_far = c.reads.invariant.0 in
    let piece = take c.in-Some.n c.read.new.buf in
    let new = g.S.RecordSteps.at c.feed-fed.new.steps in
    let fed = rw so_far.none_waits at c.feed-fed.ensures.converted in
    -- a triple: the bytes that were written, that they were appended, and that they are a beginning of what waited
    let written = c.in-Err.ensures.err in (
      Course-wrote (Course-read so_far.course c.read.new.self piece c.in-Some.ensures.came) c.write_whole.new.writer
          written.0 written.1,
      IsLeft-unwritten so_far.served piece (HasReadAll g.R.Read.remaining c.read.new.self) new.state new
          c.feed-fed.result fed written.0 (subst (IsBeginningOf written.0) c.waiting.ensures written.2),
    )

-- the invariant holds after a read whose records were converted, written and told
pub reads-preserved : goal.reads-preserved
reads-preserved g c =
    let so_far = c.reads.invariant.0 in
    let piece = take c.in-Some.n c.read.new.buf in
    let new = g.S.RecordSteps.at c.feed-fed.new.steps in
    let steps = rw so_far.none_waits at c.in-Ok-fed.ensures.converted in
    let wrote = rw c.waiting.ensures at c.in-Ok.ensures.ok in
    let told = rw c.untold.ensures at c.tell.ensures in
    let course = Course-told (Course-wrote (Course-read so_far.course c.read.new.self piece c.in-Some.ensures.came)
    c.write_whole.new.writer new.out wrote) c.tell.new.errors new.messages told in
    let served = IsServed-piece so_far.served piece new c.feed-fed.new.part.items steps c.in-Ok-fed.ensures.part in
    let cleared = c.clear-in-Some.ensures in (
      record {
        course = course;
        served = subst (IsServed g.S.RecordSteps.relation c.args.end (g.S.RecordSteps.at c.args.steps.now).state
            course.read course.written course.messages c.feed-fed.new.part.items) (sym (ap (λ now. now.state) cleared.at))
            served;
        none_waits = start_at-state (g.S.RecordSteps.at c.clear-in-Some.new.self) new.state cleared.at;
      },
      cleared.same_end ∙ c.in-Ok-fed.ensures.same_end,
    )

-- a chunk could not be converted: what was made of the records before is written and told
pub returns-in-Err-fed-clause-run : goal.returns-in-Err-fed-clause-run
returns-in-Err-fed-clause-run g c =
    let so_far = c.reads.invariant.0 in
    let piece = take c.in-Some.n c.read.new.buf in
    let new = g.S.RecordSteps.at c.feed-fed.new.steps in
    let error = c.in-Err-fed.error in
    let fed = subst (λ old. AreConverted g.S.RecordSteps.relation (ended_records c.args.end c.reads.part.items piece)
    old new (Err error)) so_far.none_waits c.in-Err-fed.ensures.converted in
    let wrote = rw c.waiting.ensures at c.in-Ok.ensures.ok in
    let told = rw c.untold.ensures at c.tell.ensures in (
      Course-told (Course-wrote (Course-read so_far.course c.read.new.self piece c.in-Some.ensures.came)
          c.write_whole.new.writer new.out wrote) c.tell.new.errors new.messages told,
      IsLeft-piece so_far.served piece (HasReadAll g.R.Read.remaining c.read.new.self)
          (g.S.RecordSteps.at c.clear-in-Some.new.self).state new error fed,
    )

-- the input was read to its end, and the last record converted: what is written after it is right for the result
pub returns-in-Ok-last-clause-run : goal.returns-in-Ok-last-clause-run
returns-in-Ok-last-clause-run g c =
    let so_far = c.reads.invariant.0 in
    let end = c.in-Some-eq0 in
    let new = g.S.RecordSteps.at c.convert_last-last.new.steps in
    let at_end = end.ensures.end end.field-0-test (omega (arith, c.reads.auto.buffer, c.requires.nonempty)) in
    let steps = rw (c.deref.ensures.value, so_far.none_waits) at c.in-Ok-last.ensures.ok in
    let told = rw c.untold-2.ensures at c.tell-2.ensures in
    -- a triple: the bytes that were written, that they were appended, and that they are right for the result
    let written = c.close.ensures.written in (
      Course-wrote (Course-told (Course-end so_far.course c.read.new.self
          (take end.field-0 c.read.new.buf) end.ensures.came (ap (λ count. take count c.read.new.buf) end.field-0-test))
          c.tell-2.new.errors new.messages told) c.close.new.writer written.0 written.1,
      IsLeft-end so_far.served (HasReadAll g.R.Read.remaining c.read.new.self) at_end
          (g.S.RecordSteps.at c.close.new.steps).state new steps c.close.result written.0 written.2,
    )

-- the last record could not be converted: the messages about it are told
pub returns-in-Err-last-clause-run : goal.returns-in-Err-last-clause-run
returns-in-Err-last-clause-run g c =
    let so_far = c.reads.invariant.0 in
    let end = c.in-Some-eq0 in
    let part = c.deref.result.now in
    let new = g.S.RecordSteps.at c.convert_last-last.new.steps in
    let error = c.in-Err-last.error in
    let at_end = end.ensures.end end.field-0-test (omega (arith, c.reads.auto.buffer, c.requires.nonempty)) in
    let served : IsServed g.S.RecordSteps.relation c.args.end (g.S.RecordSteps.at c.args.steps.now).state
    so_far.course.read so_far.course.written so_far.course.messages part (g.S.RecordSteps.at c.reads.steps).state =
    record { steps = so_far.served.steps; begun = c.deref.ensures.value ∙ so_far.served.begun } in
    let failed = c.in-Err-last.ensures.error in
    let step = subst (λ old. IsStep g.S.RecordSteps.relation part old new (Err error)) so_far.none_waits failed.0 in
    let told = rw c.untold-2.ensures at c.tell-2.ensures in (
      Course-told (Course-end so_far.course c.read.new.self
          (take end.field-0 c.read.new.buf) end.ensures.came (ap (λ count. take count c.read.new.buf) end.field-0-test))
          c.tell-2.new.errors new.messages told,
      IsLeft-last served (HasReadAll g.R.Read.remaining c.read.new.self) at_end new.state new error step failed.1,
    )

-- Sources and sinks as contracts see them.
use Rattle.std.specs.Prelude.{◌≡◌, ℕ, List, ◌++◌, Bool, Option}
use Rattle.std.specs.Io.KnownBytes.{Appends}
use Rattle.road_serve.specs.Failures.{RisesByOne}
use Rattle.road_serve.specs.declared.faults.ServeFault.{ServeFault}
use Rattle.road_serve.specs.declared.faults.ServeFault.TheVariants as faults
use Rattle.road_serve.specs.declared.streams.Source.{Ghosts as Source}
use Rattle.road_serve.specs.declared.streams.Sink.{Ghosts as Sink}

-- a source: the bytes that are left, if they are known; whether the last read returned the end of input; the number of
-- reads that failed
pub record SourceView : Type 0 where
  pub remaining : Option (List ℕ)
  pub at_end : Bool
  pub failures : ℕ

-- a sink: the bytes that it holds, if they are known; whether the last call was a flush that succeeded; the number of
-- calls that failed
pub record SinkView : Type 0 where
  pub contents : Option (List ℕ)
  pub flushed : Bool
  pub failures : ℕ

-- a reader as a source
abbrev pub source_view : {R : Type 0} → Source R → R → SourceView
source_view source reader = record {
  remaining = source.remaining reader;
  at_end = source.at_end reader;
  failures = source.failures reader;
}

-- a writer as a sink
abbrev pub sink_view : {W : Type 0} → Sink W → W → SinkView
sink_view sink writer = record {
  contents = sink.contents writer;
  flushed = sink.flushed writer;
  failures = sink.failures writer;
}

-- the sink took this text except this rest at its end
pub record TakesAllBut (old new : SinkView) (text rest : List ℕ) : Type 0 where
  pub front : List ℕ
  pub taken : Appends old.contents new.contents front
  pub whole : front ++ rest ≡ text

-- the sink took a prefix of this text
abbrev pub TakesFront : SinkView → SinkView → List ℕ → Type 0
TakesFront old new text = (rest : List ℕ) × TakesAllBut old new text rest

-- A call that would have written this text ended with this fault: memory ran out, or a worker was lost, or a call of
-- the sink failed.
abbrev pub Stops : SinkView → SinkView → List ℕ → ServeFault → Type 0
Stops old new text faults.OutOfMemory = TakesFront old new text × (new.failures ≡ old.failures)
Stops old new text faults.WorkersGone = TakesFront old new text × (new.failures ≡ old.failures)
Stops old new text faults.Write = TakesFront old new text × RisesByOne old.failures new.failures
Stops old new text fault = ⊥

-- What a sink in memory shows.
use Rattle.std.specs.Prelude.{◌≡◌, ◌+◌, ◌-◌, ◌^◌, ℕ, List, length, min, Option, unwrap_or}
use Rattle.bop_ends.specs.Plan.{failure_at}
use Rattle.bop_ends.specs.declared.mem_sink.MemSink.{MemSink}

abbrev pub mem_sink_content : MemSink → List ℕ
mem_sink_content sink = sink.content.items

-- how many bytes it holds at most
abbrev pub mem_sink_room : MemSink → ℕ
mem_sink_room sink = sink.room

-- the calls that are to fail, each with the number of bytes that it keeps
abbrev pub mem_sink_plan : MemSink → List (ℕ × ℕ)
mem_sink_plan sink = sink.fails.items

-- the number of the next call
abbrev pub mem_sink_calls : MemSink → ℕ
mem_sink_calls sink = sink.calls

abbrev pub mem_sink_faults : MemSink → ℕ
mem_sink_faults sink = sink.faults.count

-- the failure that is planned for the next call
abbrev pub next_failure : MemSink → Option ℕ
next_failure sink = failure_at (mem_sink_plan sink) (mem_sink_calls sink)

abbrev pub room_left : MemSink → ℕ
room_left sink = mem_sink_room sink - length (mem_sink_content sink)

-- how many bytes of a piece the next call keeps: as many as are planned, as there is room for
-- and as the piece has, whatever is least
abbrev pub kept_of : MemSink → List ℕ → ℕ
kept_of sink piece =
    min (unwrap_or (next_failure sink) (length piece)) (min (room_left sink) (length piece))

-- the room and the plan stay, and the next call has the next number
pub record TakesCall (old new : MemSink) : Type 0 where
  pub room : mem_sink_room new ≡ mem_sink_room old
  pub plan : mem_sink_plan new ≡ mem_sink_plan old
  pub calls : mem_sink_calls new ≡ min (mem_sink_calls old + 1) (2 ^ 64 - 1)

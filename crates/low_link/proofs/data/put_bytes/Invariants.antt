use Rattle.std.proofs.Common.{◌≡◌, ◌+◌, drop}
use Rattle.low_link.specs.private.DataBytes.{with_data}
use Rattle.low_link.proofs.data.put_bytes.Given as goal

abbrev pub invariant-loop-byte : goal.invariant-loop-byte
invariant-loop-byte l = record {
  next : l.next ≡ l.at + l.byte-index;
  rest : with_data l.next (drop l.byte-index l.bytes) l.out ≡ with_data l.at l.bytes l.fn.out;
}

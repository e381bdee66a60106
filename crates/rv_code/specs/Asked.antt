-- What holds of each effect that an instruction asks for.
use Rattle.std.specs.Prelude.{◌<◌}
use Rattle.bop_bits.specs.MemoryNumbers.{IsSize}
use Rattle.rv_code.specs.declared.effect.Effect.{Effect}
use Rattle.rv_code.specs.declared.effect.Effect.TheVariants.{Sets, Loads, Stores, Jumps, Links, Proceeds, Breaks, Calls}

-- its register is one, and its access has a size
abbrev pub IsEffect : Effect → Type 0
IsEffect (Sets rd value) = rd < 32
IsEffect (Loads rd at size signed) = (rd < 32) × IsSize size
IsEffect (Stores at size value) = IsSize size
IsEffect (Jumps to) = Unit {0}
IsEffect (Links rd to) = rd < 32
IsEffect Proceeds = Unit {0}
IsEffect Breaks = Unit {0}
IsEffect (Calls which) = Unit {0}

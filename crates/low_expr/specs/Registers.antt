-- The registers that code uses, by the names of the calling convention.
use Rattle.std.specs.Prelude.{ℕ}

-- it reads as 0
abbrev pub x0 : ℕ
x0 = 0

-- the address that a call returns to
abbrev pub ra : ℕ
ra = 1

-- the stack pointer
abbrev pub sp : ℕ
sp = 2

-- what a node works with: t0 and t1 have its values, t2 the address of an object or a slot, t3
-- the size of what a pointer points to, and t4 a value before its object changes
abbrev pub t0 : ℕ
t0 = 5

abbrev pub t1 : ℕ
t1 = 6

abbrev pub t2 : ℕ
t2 = 7

abbrev pub t3 : ℕ
t3 = 28

abbrev pub t4 : ℕ
t4 = 29

-- the first argument, and the value that is returned; the other arguments follow
abbrev pub a0 : ℕ
a0 = 10

-- the number of a call of the machine
abbrev pub a7 : ℕ
a7 = 17

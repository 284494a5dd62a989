-- What the calls of a store answer and leave.
use Rattle.std.specs.Prelude.{◌≡◌, ℕ, ◌<◌, ◌≤◌, Bool, true, false, ◌⊎◌, List, length, Ok, Err, Result, ◌≢◌}
use Rattle.store.specs.declared.fault.Cause.TheVariants.{WrongBuffer, NoSuchBlock, Dark}
use Rattle.store.specs.declared.fault.Fault.{Fault}
use Rattle.store.specs.Faults.{arisen}
use Rattle.store.specs.Medium.{Medium, held, after, dark}

-- A buffer of n bytes and a block b are right for `count` blocks.
abbrev pub Fits : ℕ → ℕ → ℕ → Type 0
Fits n b count = (n ≡ 512) × (b < count)

-- The faults that every layer raises itself, in the order of the tests: a wrong buffer; no such block.
abbrev pub Misfits : ℕ → ℕ → ℕ → Fault → Type 0
Misfits n b count f =
    ((n ≢ 512) × (f ≡ arisen WrongBuffer b))
    ⊎ ((n ≡ 512) × (count ≤ b) × (f ≡ arisen NoSuchBlock b))

-- Where these two tests alone are made.
abbrev pub Fitting : ℕ → ℕ → ℕ → Result Unit Fault → Type 0
Fitting n b count (Ok _) = Fits n b count
Fitting n b count (Err f) = Misfits n b count f

-- A live store does what it is asked with a right buffer and block.
abbrev pub Ready : Medium → ℕ → ℕ → Type 0
Ready m b n = Fits n b (length m.blocks) × (m.live ≡ true)

-- The refusals of a store: those of every layer, and then that of a dark store.
abbrev pub Refuses : Medium → ℕ → ℕ → Fault → Type 0
Refuses m b n f =
    Misfits n b (length m.blocks) f
    ⊎ (Fits n b (length m.blocks) × (m.live ≡ false) × (f ≡ dark m b))

-- A read of block b into a buffer that held x answers r and leaves y in the buffer.
abbrev pub Reading : Medium → ℕ → List ℕ → Result Unit Fault → List ℕ → Type 0
Reading m b x (Ok _) y = Ready m b (length x) × (y ≡ held m b)
Reading m b x (Err f) y = Refuses m b (length x) f × (y ≡ x)

-- The supply failed at block b: it holds any 512 bytes, the old and the new ones among them, and the store is dark.
abbrev pub Cut : Medium → ℕ → Medium → Type 0
Cut m b e = (y : List ℕ) × (length y ≡ 512) × (e ≡ after m b y false)

-- A write of x into block b answers r and makes the store m the store e: done, refused, or cut.
abbrev pub Writing : Medium → ℕ → List ℕ → Result Unit Fault → Medium → Type 0
Writing m b x (Ok _) e = Ready m b (length x) × (e ≡ after m b x true)
Writing m b x (Err f) e =
    (Refuses m b (length x) f × (e ≡ m))
    ⊎ (Ready m b (length x) × (f ≡ dark m b) × Cut m b e)

-- The tests of a store that lies over no other: n bytes, a block b among `count`, and the mark.
abbrev pub Admitting : ℕ → ℕ → ℕ → Bool → Result Unit Fault → Type 0
Admitting n b count live (Ok _) = Fits n b count × (live ≡ true)
Admitting n b count live (Err f) = Misfits n b count f ⊎ (Fits n b count × (live ≡ false) × (f ≡ arisen Dark b))

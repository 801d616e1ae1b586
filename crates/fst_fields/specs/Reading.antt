-- Reading in steps that may fail, and what a function that reads has to give. Both are said of any kind of fault.
use Rattle.std.specs.Prelude.{◌≡◌, ◌⊎◌, Result, Ok, Err}

-- one step after the other, the first fault being the fault of all
infixl 10 ◌>>=◌
abbrev pub ◌>>=◌ : {A B E : Type 0} → Result A E → (A → Result B E) → Result B E
(Ok x) >>= f = f x
(Err e) >>= f = Err e

-- A fault is the one that reading gives, or that of running out of memory, which stands first here.
abbrev pub Fails : {Y E : Type 0} → E → E → Result Y E → Type 0
Fails memory fault read = (fault ≡ memory) ⊎ (read ≡ Err fault)

-- What a function returned, seen by view, is what reading gives, unless it ran out of memory.
abbrev pub Gives : {X Y E : Type 0} → E → (X → Y) → Result X E → Result Y E → Type 0
Gives memory view (Ok x) read = read ≡ Ok (view x)
Gives memory view (Err fault) read = Fails memory fault read

-- What a load does, by the files that a store tells of.
use Rattle.std.specs.Prelude.{◌≡◌, ℕ, ◌+◌, ◌<◌, ◌≤◌, List, [], ◌∷◌, ◌++◌, length, Option, Some, None, option_map, Result, Ok, Err, ⊤, if◌then◌else◌, Vec}
use Rattle.std.specs.Str.{bytes_eq}
use Rattle.std.specs.declared.alloc.Global.{Global}
use Rattle.mc_port.specs.Causes.{Rose}
use Rattle.mc_port.specs.declared.store.LoadFault.{LoadFault}
use Rattle.mc_port.specs.declared.store.LoadFault.TheVariants.{Failed, TooLong, OutOfMemory}

-- each file's name and its bytes
abbrev pub Files : Type 0
Files = List (List ℕ × List ℕ)

-- the bytes of the first file of that name
abbrev pub file_of : Files → List ℕ → Option (List ℕ)
file_of [] name = None
file_of (f ∷ fs) name = if bytes_eq f.0 name then Some f.1 else file_of fs name

-- a file that was asked for: its name, and the greatest length that was allowed
pub record Request : Type 0 where
  pub name : List ℕ
  pub limit : ℕ

-- what contracts see of a store
pub record State : Type 0 where
  -- the files, where they are told; of two files of one name the first is meant
  pub contents : Option Files
  -- what was asked for so far, where it is told
  pub asked : Option (List Request)
  -- how often a load has failed; the count never falls, and stays at the last value of a u64
  pub faults : ℕ

-- what was asked for so far, where it is told, with one more at its end
abbrev pub and_asked : Option (List Request) → Request → Option (List Request)
and_asked asked request = option_map (λ rs. rs ++ request ∷ []) asked

-- the file of that name has these bytes, where the files are told
abbrev pub HasFile : Option Files → List ℕ → List ℕ → Type 0
HasFile files name bytes = (told : Files) → files ≡ Some told → file_of told name ≡ Some bytes

-- the file of that name is longer than the limit, where the files are told
abbrev pub IsLonger : Option Files → List ℕ → ℕ → Type 0
IsLonger files name limit = (told : Files) → files ≡ Some told
    → (bytes : List ℕ) × (file_of told name ≡ Some bytes) × (limit < length bytes)

-- what an answer says of the file, where the files are told, of the limit and of the count of
-- faults
abbrev pub Loads : State → State → Request → Result (Vec ℕ Global) LoadFault → Type 0
Loads old new request (Ok bytes) =
    (length bytes.items ≤ request.limit) × HasFile old.contents request.name bytes.items
Loads old new request (Err Failed) = Rose old.faults new.faults
Loads old new request (Err (TooLong at_least)) =
    (at_least ≡ request.limit + 1) × IsLonger old.contents request.name request.limit
Loads old new request (Err OutOfMemory) = ⊤

-- a call puts its request at the end of those so far; one that is out of memory leaves them
abbrev pub Asks : State → State → Request → Result (Vec ℕ Global) LoadFault → Type 0
Asks old new request (Ok bytes) = new.asked ≡ and_asked old.asked request
Asks old new request (Err Failed) = new.asked ≡ and_asked old.asked request
Asks old new request (Err (TooLong at_least)) = new.asked ≡ and_asked old.asked request
Asks old new request (Err OutOfMemory) = new.asked ≡ old.asked

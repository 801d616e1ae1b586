-- What each call of a desk promises, by what is seen before and after it.
use Rattle.std.specs.Prelude.{◌≡◌, ◌≢◌, ℕ, ◌<◌, ◌≤◌, List, [], ◌∷◌, ◌++◌, length, Option, None, Some, unwrap_or, IfSome, Result, Ok, Err}
use Rattle.fst_desk.specs.Seen.{Files, Filed, Showing, Seen, Rises, raised}
use Rattle.fst_desk.specs.declared.edge.FetchFault.{FetchFault}
use Rattle.fst_desk.specs.declared.edge.FetchFault.TheVariants as fetching
use Rattle.fst_desk.specs.declared.edge.StoreFault.{StoreFault}
use Rattle.fst_desk.specs.declared.edge.StoreFault.TheVariants as storing

-- what a fetch of the name reads: the content, empty where the name is not held
abbrev pub content_of : Files → List ℕ → List ℕ
content_of files name = unwrap_or (files name) []

-- this content stands under the name, and every other name is as before
pub record Holds (name content : List ℕ) (old new : Files) : Type 0 where
  pub here : new name ≡ Some content
  pub elsewhere : (other : List ℕ) → other ≢ name → new other ≡ old other

-- `Holds` where the contents are told; a desk tells them after a call exactly where it told them before
abbrev pub ToldHolds : List ℕ → List ℕ → Option Files → Option Files → Type 0
ToldHolds name content None None = Unit {0}
ToldHolds name content None (Some new) = ⊥
ToldHolds name content (Some old) None = ⊥
ToldHolds name content (Some old) (Some new) = Holds name content old new

-- a fetch that gave this content
pub record FetchesWhole (name : List ℕ) (limit : ℕ) (old new : Filed) (content : List ℕ) : Type 0 where
  pub missed : new.missed ≡ old.missed
  pub fits : length content ≤ limit
  pub taken : new.taken ≡ length content
  pub whole : IfSome old.told (λ files. content ≡ content_of files name)

-- a fetch that took more bytes than the limit
pub record FetchesTooLong (name : List ℕ) (limit : ℕ) (old new : Filed) : Type 0 where
  pub missed : new.missed ≡ old.missed
  pub taken : limit < new.taken
  pub longer : IfSome old.told (λ files. limit < length (content_of files name))

-- what each answer of a fetch says
abbrev pub FetchAnswer : List ℕ → ℕ → Filed → Filed → Result (List ℕ) FetchFault → Type 0
FetchAnswer name limit old new (Ok content) = FetchesWhole name limit old new content
FetchAnswer name limit old new (Err fetching.Failed) = new.missed ≡ old.missed ++ name ∷ []
FetchAnswer name limit old new (Err fetching.TooLong) = FetchesTooLong name limit old new
FetchAnswer name limit old new (Err fetching.Memory) = new.missed ≡ old.missed

-- a fetch of the name with that limit: it is counted, and changes no file, no other count and nothing shown
pub record Fetches (name : List ℕ) (limit : ℕ) (old new : Seen) (result : Result (List ℕ) FetchFault) : Type 0 where
  pub told : new.filed.told ≡ old.filed.told
  pub write_faults : new.filed.write_faults ≡ old.filed.write_faults
  pub starved : new.filed.starved ≡ old.filed.starved
  pub fetches : new.filed.fetches ≡ raised old.filed.fetches
  pub stores : new.filed.stores ≡ old.filed.stores
  pub showing : new.showing ≡ old.showing
  pub answer : FetchAnswer name limit old.filed new.filed result

-- a store that left exactly these bytes under the name
pub record StoresWhole (name bytes : List ℕ) (old new : Filed) : Type 0 where
  pub told : ToldHolds name bytes old.told new.told
  pub write_faults : new.write_faults ≡ old.write_faults
  pub starved : new.starved ≡ old.starved

-- a store that broke off: the front of the bytes stands under the name
pub record StoresPrefix (name bytes : List ℕ) (old new : Filed) : Type 0 where
  pub front : List ℕ
  pub rest : List ℕ
  pub splits : bytes ≡ front ++ rest
  pub told : ToldHolds name front old.told new.told
  pub write_faults : Rises old.write_faults new.write_faults
  pub starved : new.starved ≡ old.starved

-- a store that found no memory: no file changed
pub record StoresNothing (old new : Filed) : Type 0 where
  pub told : new.told ≡ old.told
  pub write_faults : new.write_faults ≡ old.write_faults
  pub starved : Rises old.starved new.starved

-- what each answer of a store says
abbrev pub StoreAnswer : List ℕ → List ℕ → Filed → Filed → Result Unit StoreFault → Type 0
StoreAnswer name bytes old new (Ok _) = StoresWhole name bytes old new
StoreAnswer name bytes old new (Err storing.Failed) = StoresPrefix name bytes old new
StoreAnswer name bytes old new (Err storing.Memory) = StoresNothing old new

-- a store of the bytes under the name: it is counted, and changes nothing shown, no name missed; no count falls
pub record Stores (name bytes : List ℕ) (old new : Seen) (result : Result Unit StoreFault) : Type 0 where
  pub missed : new.filed.missed ≡ old.filed.missed
  pub taken : new.filed.taken ≡ old.filed.taken
  pub write_faults : old.filed.write_faults ≤ new.filed.write_faults
  pub starved : old.filed.starved ≤ new.filed.starved
  pub fetches : new.filed.fetches ≡ old.filed.fetches
  pub stores : new.filed.stores ≡ raised old.filed.stores
  pub showing : new.showing ≡ old.showing
  pub answer : StoreAnswer name bytes old.filed new.filed result

-- the bytes were appended where what is shown is told; it is told after a call exactly where it was before
abbrev pub ToldAppends : List ℕ → Option (List ℕ) → Option (List ℕ) → Type 0
ToldAppends bytes None None = Unit {0}
ToldAppends bytes None (Some new) = ⊥
ToldAppends bytes (Some old) None = ⊥
ToldAppends bytes (Some old) (Some new) = new ≡ old ++ bytes

-- a show that appended the whole line
pub record ShowsWhole (line : List ℕ) (old new : Showing) : Type 0 where
  pub shown : ToldAppends line old.shown new.shown
  pub show_faults : new.show_faults ≡ old.show_faults
  pub show_starved : new.show_starved ≡ old.show_starved

-- a show that broke off: the front of the line was appended
pub record ShowsPrefix (line : List ℕ) (old new : Showing) : Type 0 where
  pub front : List ℕ
  pub rest : List ℕ
  pub splits : line ≡ front ++ rest
  pub shown : ToldAppends front old.shown new.shown
  pub show_faults : Rises old.show_faults new.show_faults
  pub show_starved : new.show_starved ≡ old.show_starved

-- a show that found no memory: nothing was appended
pub record ShowsNothing (old new : Showing) : Type 0 where
  pub shown : new.shown ≡ old.shown
  pub show_faults : new.show_faults ≡ old.show_faults
  pub show_starved : Rises old.show_starved new.show_starved

-- what each answer of a show says
abbrev pub ShowAnswer : List ℕ → Showing → Showing → Result Unit StoreFault → Type 0
ShowAnswer line old new (Ok _) = ShowsWhole line old new
ShowAnswer line old new (Err storing.Failed) = ShowsPrefix line old new
ShowAnswer line old new (Err storing.Memory) = ShowsNothing old new

-- a show of the line: it is counted, and changes nothing of the files' half; no count falls
pub record DeskShows (line : List ℕ) (old new : Seen) (result : Result Unit StoreFault) : Type 0 where
  pub filed : new.filed ≡ old.filed
  pub show_faults : old.showing.show_faults ≤ new.showing.show_faults
  pub show_starved : old.showing.show_starved ≤ new.showing.show_starved
  pub shows : new.showing.shows ≡ raised old.showing.shows
  pub answer : ShowAnswer line old.showing new.showing result

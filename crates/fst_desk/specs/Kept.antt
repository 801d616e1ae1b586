-- How exactly a memory desk behaves: what it keeps, and what each call makes of that.
use Rattle.std.specs.Prelude.{
  ◌≡◌,
  ℕ,
  ◌<◌,
  ◌≤◌,
  ◌⊎◌,
  Bool,
  nat_eq,
  if◌then◌else◌,
  List,
  [],
  ◌∷◌,
  ◌++◌,
  length,
  take,
  Option,
  None,
  Some,
  IsSome,
  Result,
  Ok,
  Err,
}
use Rattle.std.specs.Str.{bytes_eq}
use Rattle.fst_desk.specs.Seen.{Files, Seen, raised}
use Rattle.fst_desk.specs.declared.edge.FetchFault.{FetchFault}
use Rattle.fst_desk.specs.declared.edge.FetchFault.TheVariants as fetching
use Rattle.fst_desk.specs.declared.edge.StoreFault.{StoreFault}
use Rattle.fst_desk.specs.declared.edge.StoreFault.TheVariants as storing

-- what a memory desk keeps
pub record Kept : Type 0 where
  -- each name with its content, in the order of the writes; the last of a name stands
  pub writes : List (List ℕ × List ℕ)
  -- each number of a call that is to fail, with the bytes that it takes first; the last of a number stands
  pub plan : List (ℕ × ℕ)
  -- how many calls of fetch, store and show there were, and how many of each
  pub calls : ℕ
  pub fetches : ℕ
  pub stores : ℕ
  pub shows : ℕ
  pub missed : List (List ℕ)
  pub write_faults : ℕ
  pub starved : ℕ
  pub taken : ℕ
  pub shown : List ℕ
  pub show_faults : ℕ
  pub show_starved : ℕ

-- the value of the last pair with that key, and `found` where no pair has it
abbrev pub last_of : {K V : Type 0} → (K → K → Bool) → Option V → List (K × V) → K → Option V
last_of same found [] key = found
last_of same found (pair ∷ pairs) key = last_of same (if same pair.0 key then Some pair.1 else found) pairs key

-- the content under each name
abbrev pub files_of : Kept → Files
files_of kept name = last_of bytes_eq None kept.writes name

-- a desk that holds no file and of which no call is to fail
abbrev pub fresh : Kept
fresh = record {
  writes = [];
  plan = [];
  calls = 0;
  fetches = 0;
  stores = 0;
  shows = 0;
  missed = [];
  write_faults = 0;
  starved = 0;
  taken = 0;
  shown = [];
  show_faults = 0;
  show_starved = 0;
}

-- what a call takes of its bytes: all, or the planned number of them
abbrev pub part_of : Option ℕ → List ℕ → List ℕ
part_of None bytes = bytes
part_of (Some most) bytes = take most bytes

-- whether the coming call is to fail, and how many bytes it takes first
abbrev pub planned_for : Kept → Option ℕ
planned_for kept = last_of nat_eq None kept.plan (raised kept.calls)

-- the desk with one more call counted
abbrev pub counted : Kept → Kept
counted kept = record kept { calls = raised kept.calls }

-- the desk with one more fetch, one more store, one more show counted
abbrev pub fetching_once : Kept → Kept
fetching_once kept = record (counted kept) { fetches = raised kept.fetches }

abbrev pub storing_once : Kept → Kept
storing_once kept = record (counted kept) { stores = raised kept.stores }

abbrev pub showing_once : Kept → Kept
showing_once kept = record (counted kept) { shows = raised kept.shows }

-- the desk with that content under the name
abbrev pub written : List ℕ → List ℕ → Kept → Kept
written name content kept = record kept { writes = kept.writes ++ (name, content) ∷ [] }

-- what callers see of a memory desk, which tells all
abbrev pub seen_of : Kept → Seen
seen_of kept = record {
  filed = record {
    told = Some (files_of kept);
    missed = kept.missed;
    write_faults = kept.write_faults;
    starved = kept.starved;
    taken = kept.taken;
    fetches = kept.fetches;
    stores = kept.stores;
  };
  showing = record { shown = Some kept.shown; show_faults = kept.show_faults; show_starved = kept.show_starved; shows = kept.shows };
}

-- a fetch that gave the content: it is held, it fits, and the call was not to fail
pub record FetchesHeld (name : List ℕ) (limit : ℕ) (old new : Kept) (content : List ℕ) : Type 0 where
  pub unplanned : planned_for old ≡ None
  pub held : files_of old name ≡ Some content
  pub fits : length content ≤ limit
  pub after : new ≡ record (fetching_once old) { taken = length content }

-- a fetch that failed: the call was to fail, or the name is not held
pub record FetchesFailing (name : List ℕ) (old new : Kept) : Type 0 where
  pub cause : IsSome (planned_for old) ⊎ (files_of old name ≡ None)
  pub after : new ≡ record (fetching_once old) { missed = old.missed ++ name ∷ []; taken = 0 }

-- the note of a name whose fetch failed, or that there was no memory for it
abbrev pub Misses : List ℕ → Kept → Kept → FetchFault → Type 0
Misses name old new fetching.Failed = new ≡ record old { missed = old.missed ++ name ∷ []; taken = 0 }
Misses name old new fetching.TooLong = ⊥
Misses name old new fetching.Memory = new ≡ record old { taken = 0 }

-- a fetch of a content that is longer than the limit
pub record FetchesLonger (name : List ℕ) (limit : ℕ) (old new : Kept) : Type 0 where
  pub unplanned : planned_for old ≡ None
  pub content : List ℕ
  pub held : files_of old name ≡ Some content
  pub longer : limit < length content
  pub after : new ≡ record (fetching_once old) { taken = length content }

-- each answer of a memory desk's fetch
abbrev pub KeptFetches : List ℕ → ℕ → Kept → Kept → Result (List ℕ) FetchFault → Type 0
KeptFetches name limit old new (Ok content) = FetchesHeld name limit old new content
KeptFetches name limit old new (Err fetching.Failed) = FetchesFailing name old new
KeptFetches name limit old new (Err fetching.TooLong) = FetchesLonger name limit old new
KeptFetches name limit old new (Err fetching.Memory) = new ≡ record (fetching_once old) { taken = 0 }

-- a store that left the bytes: the call was not to fail
pub record StoresUnplanned (name bytes : List ℕ) (old new : Kept) : Type 0 where
  pub unplanned : planned_for old ≡ None
  pub after : new ≡ written name bytes (storing_once old)

-- a store that was to fail: it took the planned number of bytes first
pub record StoresPlanned (name bytes : List ℕ) (old new : Kept) : Type 0 where
  pub most : ℕ
  pub planned : planned_for old ≡ Some most
  pub after : new ≡ record (written name (take most bytes) (storing_once old)) { write_faults = raised old.write_faults }

-- each answer of a memory desk's store
abbrev pub KeptStores : List ℕ → List ℕ → Kept → Kept → Result Unit StoreFault → Type 0
KeptStores name bytes old new (Ok _) = StoresUnplanned name bytes old new
KeptStores name bytes old new (Err storing.Failed) = StoresPlanned name bytes old new
KeptStores name bytes old new (Err storing.Memory) = new ≡ record (storing_once old) { starved = raised old.starved }

-- a show that appended the line: the call was not to fail
pub record ShowsUnplanned (line : List ℕ) (old new : Kept) : Type 0 where
  pub unplanned : planned_for old ≡ None
  pub after : new ≡ record (showing_once old) { shown = old.shown ++ line }

-- a show that was to fail: it took the planned number of bytes first
pub record ShowsPlanned (line : List ℕ) (old new : Kept) : Type 0 where
  pub most : ℕ
  pub planned : planned_for old ≡ Some most
  pub after : new ≡ record (showing_once old) { shown = old.shown ++ take most line; show_faults = raised old.show_faults }

-- each answer of a memory desk's show
abbrev pub KeptShows : List ℕ → Kept → Kept → Result Unit StoreFault → Type 0
KeptShows line old new (Ok _) = ShowsUnplanned line old new
KeptShows line old new (Err storing.Failed) = ShowsPlanned line old new
KeptShows line old new (Err storing.Memory) = new ≡ record (showing_once old) { show_starved = raised old.show_starved }

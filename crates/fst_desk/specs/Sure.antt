-- What a desk in memory keeps whose calls fail for lack of memory alone, and what each call makes of that.
use Rattle.std.specs.Prelude.{◌≡◌, ℕ, ◌<◌, ◌≤◌, List, [], ◌∷◌, ◌++◌, length, None, Some, unwrap_or, Result, Ok, Err}
use Rattle.std.specs.Str.{bytes_eq}
use Rattle.fst_desk.specs.Seen.{Files, Seen, raised}
use Rattle.fst_desk.specs.Kept.{last_of}
use Rattle.fst_desk.specs.declared.edge.FetchFault.{FetchFault}
use Rattle.fst_desk.specs.declared.edge.FetchFault.TheVariants as fetching
use Rattle.fst_desk.specs.declared.edge.StoreFault.{StoreFault}
use Rattle.fst_desk.specs.declared.edge.StoreFault.TheVariants as storing

-- what such a desk keeps
pub record Sure : Type 0 where
  -- each name with its content, in the order of the writes; the last of a name stands
  pub writes : List (List ℕ × List ℕ)
  pub fetches : ℕ
  pub stores : ℕ
  pub shows : ℕ
  pub starved : ℕ
  pub taken : ℕ
  pub shown : List ℕ
  pub show_starved : ℕ

-- the content under each name
abbrev pub sure_files : Sure → Files
sure_files sure name = last_of bytes_eq None sure.writes name

-- a desk that holds no file, before its first call
abbrev pub unused : Sure
unused = record { writes = []; fetches = 0; stores = 0; shows = 0; starved = 0; taken = 0; shown = []; show_starved = 0 }

-- the desk with that content under the name
abbrev pub put_sure : List ℕ → List ℕ → Sure → Sure
put_sure name content sure = record sure { writes = sure.writes ++ (name, content) ∷ [] }

-- what callers see of it: it tells all, no name is ever missed, and no store and no show fails
abbrev pub sure_seen : Sure → Seen
sure_seen sure = record {
  filed = record {
    told = Some (sure_files sure);
    missed = [];
    write_faults = 0;
    starved = sure.starved;
    taken = sure.taken;
    fetches = sure.fetches;
    stores = sure.stores;
  };
  showing = record { shown = Some sure.shown; show_faults = 0; show_starved = sure.show_starved; shows = sure.shows };
}

-- the desk with one more fetch, which took so many bytes
abbrev pub fetched_sure : ℕ → Sure → Sure
fetched_sure taken sure = record sure { fetches = raised sure.fetches; taken = taken }

-- what a fetch reads: the content, empty where the name is not held
abbrev pub read_sure : Sure → List ℕ → List ℕ
read_sure sure name = unwrap_or (sure_files sure name) []

-- each answer of its fetch: the whole content, or TooLong where that is longer, or no memory; none of reading
abbrev pub SureFetches : List ℕ → ℕ → Sure → Sure → Result (List ℕ) FetchFault → Type 0
SureFetches name limit old new (Ok content) =
    (content ≡ read_sure old name) × (length content ≤ limit) × (new ≡ fetched_sure (length content) old)
SureFetches name limit old new (Err fetching.Failed) = ⊥
SureFetches name limit old new (Err fetching.TooLong) =
    (limit < length (read_sure old name)) × (new ≡ fetched_sure (length (read_sure old name)) old)
SureFetches name limit old new (Err fetching.Memory) = new ≡ fetched_sure 0 old

-- each answer of its store: all bytes, or no memory, which is counted; none of writing
abbrev pub SureStores : List ℕ → List ℕ → Sure → Sure → Result Unit StoreFault → Type 0
SureStores name bytes old new (Ok _) = new ≡ put_sure name bytes (record old { stores = raised old.stores })
SureStores name bytes old new (Err storing.Failed) = ⊥
SureStores name bytes old new (Err storing.Memory) = new ≡ record old { stores = raised old.stores; starved = raised old.starved }

-- each answer of its show: the whole line, or no memory, which is counted
abbrev pub SureShows : List ℕ → Sure → Sure → Result Unit StoreFault → Type 0
SureShows line old new (Ok _) = new ≡ record old { shows = raised old.shows; shown = old.shown ++ line }
SureShows line old new (Err storing.Failed) = ⊥
SureShows line old new (Err storing.Memory) = new ≡ record old { shows = raised old.shows; show_starved = raised old.show_starved }

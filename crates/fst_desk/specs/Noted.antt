-- What a desk over the operating system notes of its calls, and what is seen of it.
use Rattle.std.specs.Prelude.{ℕ, List, [], None}
use Rattle.fst_desk.specs.Seen.{Seen}

-- the notes of a desk that tells no content
pub record Noted : Type 0 where
  pub missed : List (List ℕ)
  pub write_faults : ℕ
  pub taken : ℕ
  pub show_faults : ℕ
  pub fetches : ℕ
  pub stores : ℕ
  pub shows : ℕ

-- the notes before the first call
abbrev pub unnoted : Noted
unnoted = record { missed = []; write_faults = 0; taken = 0; show_faults = 0; fetches = 0; stores = 0; shows = 0 }

-- what callers see of such a desk: no content, and never out of memory in a store or a show
abbrev pub noted_seen : Noted → Seen
noted_seen noted = record {
  filed = record {
    told = None;
    missed = noted.missed;
    write_faults = noted.write_faults;
    starved = 0;
    taken = noted.taken;
    fetches = noted.fetches;
    stores = noted.stores;
  };
  showing = record { shown = None; show_faults = noted.show_faults; show_starved = 0; shows = noted.shows };
}

-- What a process sees of the system while other processes act, and what of it lasts.
use Rattle.std.specs.Prelude.{◌≡◌, ◌⊎◌, ◌≤◌, ◌++◌, ℕ, Bool, IfSome, IsTrue, List, codes, slice_get, ⊤}
use Rattle.std.specs.declared.io.ErrorKind.{ErrorKind}
use Rattle.std.specs.declared.io.ErrorKind.TheVariants.{NotFound, NotADirectory}
use Rattle.mig_host.specs.declared.system.Kind.{Kind}
use Rattle.mig_host.specs.declared.system.Kind.TheVariants as kind
use Rattle.mig_host.specs.declared.system.FileIdentity.{FileIdentity}
use Rattle.mig_host.specs.declared.system.FileIdentity.TheVariants.{Plain, Device}
use Rattle.mig_host.specs.declared.system.Stat.{Stat}
use Rattle.mig_host.specs.declared.identity.PathKind.{PathKind}
use Rattle.mig_host.specs.declared.identity.PathKind.TheVariants as found

-- What was so of the system at a moment.
pub data Fact : Type 0 where
  -- the path led to this file, over links
  Led : (path : List ℕ) (node : FileIdentity) → Fact
  -- it led to nothing
  Absent : (path : List ℕ) → Fact
  -- nothing stood there, and no link
  Bare : (path : List ℕ) → Fact
  -- this process made the file
  Made : (node : FileIdentity) → Fact
  -- this process opened the file once more, and did not get its lock there
  Denied : (node : FileIdentity) → Fact

-- What the system tells a process. Between any two calls, and within them, others act, so nothing is said of what is so now.
pub record SystemState : Type 1 where
  -- a clock
  pub moment : ℕ
  -- whether this was so at some moment since that one
  pub saw : Fact → ℕ → Type 0

-- time goes on, and what was seen stays seen
pub record Goes (old new : SystemState) : Type 0 where
  pub later : old.moment ≤ new.moment
  pub keeps : (fact : Fact) (t : ℕ) → old.saw fact t → new.saw fact t

-- this was so at a moment between old and new
abbrev pub Finds : SystemState → SystemState → Fact → Type 0
Finds old new fact = (t : ℕ) → t ≤ old.moment → new.saw fact t

-- A file is this process's alone: it has held the lock since a moment, and since then the path led to it, and whoever opened it there did not get the lock.
pub record IsOwn (s : SystemState) (path : List ℕ) (node : FileIdentity) (held : Bool) (from : ℕ) : Type 0 where
  pub lock : IsTrue held
  pub led : s.saw (Led path node) from
  pub denied : s.saw (Denied node) from

-- the path led to this file between old and new, and whoever opened it there did not get its lock
pub record IsLookedAt (old new : SystemState) (path : List ℕ) (node : FileIdentity) : Type 0 where
  pub led : Finds old new (Led path node)
  pub denied : Finds old new (Denied node)

-- an error that says that nothing is there
abbrev pub IsNowhere : ErrorKind → Type 0
IsNowhere k = (k ≡ NotFound) ⊎ (k ≡ NotADirectory)

-- which file it is that the system tells of
abbrev pub node_by : Kind → Stat → FileIdentity
node_by kind.Device s = Device s.number
node_by k s = Plain s.device s.inode

abbrev pub stat_node : Stat → FileIdentity
stat_node s = node_by s.kind s

-- what the system told is this
abbrev pub IsKindOf : Stat → PathKind → Type 0
IsKindOf s found.Nothing = ⊥
IsKindOf s found.File = ⊤
IsKindOf s (found.Device number) = stat_node s ≡ Device number

-- nothing was there between old and new, where that is what was found
abbrev pub IsBareAt : SystemState → SystemState → List ℕ → PathKind → Type 0
IsBareAt old new path found.Nothing = Finds old new (Bare path)
IsBareAt old new path other = ⊥

-- what was found at a path between old and new
abbrev pub IsFoundAt : SystemState → SystemState → List ℕ → PathKind → Type 0
IsFoundAt old new path found.Nothing = Finds old new (Absent path) × Finds old new (Bare path)
IsFoundAt old new path found.File = ⊤
IsFoundAt old new path (found.Device number) = Finds old new (Led path (Device number))

-- the file that was opened after this was found
abbrev pub IsOpenedAt : SystemState → SystemState → List ℕ → FileIdentity → PathKind → Type 0
IsOpenedAt old new path node found.Nothing = ⊥
IsOpenedAt old new path node found.File = Finds old new (Led path node)
IsOpenedAt old new path node (found.Device number) = node ≡ Device number

-- the path of a disk's file
abbrev pub disk_path : List ℕ → List ℕ
disk_path name = name ++ codes ".disk"

-- that of the note that a sync failed
abbrev pub note_path : List ℕ
note_path = codes "unsynced.mig"

-- each of these disks was found under its name between old and new, still this file
abbrev pub AreNamed : SystemState → SystemState → List (List ℕ × FileIdentity) → Type 0
AreNamed old new files = (k : ℕ) → IfSome (slice_get files k) (λ e. Finds old new (Led (disk_path e.0) e.1))

-- The files of a run: what their reading answers, and why.
use Rattle.std.specs.Prelude.{◌≡◌, ◌<◌, ◌≤◌, ◌⊎◌, ℕ, List, [], ◌∷◌, ◌++◌, length, take, Option, Some, None, Result, Ok, Err, IfSome, slice_index_or}
use Rattle.std.specs.Str.{IsUtf8}
use Rattle.device.specs.Counts.{Rises}
use Rattle.device.specs.Streams.{SourceSeen, HostSeen}
use Rattle.run_sources.specs.declared.whole.FileRead.{FileRead}
use Rattle.run_sources.specs.declared.whole.FileRead.TheVariants.{Whole, TooLong as TooMuch, Failed as NotRead, Memory as NoRoom}
use Rattle.run_sources.specs.declared.files.FileError.{FileError}
use Rattle.run_sources.specs.declared.files.ReadError.{ReadError}
use Rattle.run_sources.specs.declared.files.ReadError.TheVariants.{Failed, TooLong, NotText, Memory}

-- a file's text, whole: the bytes of that name where they are told
pub record IsFile (told : Option (List ℕ)) (text : List ℕ) : Type 0 where
  pub bytes : IfSome told (λ bytes. bytes ≡ text)
  pub short : length text ≤ 1048576
  pub utf8 : IsUtf8 text

-- bytes that are no file's text, too long or else not UTF-8
abbrev pub IsNoText : ReadError → List ℕ → Type 0
IsNoText TooLong bytes = 1048576 < length bytes
IsNoText NotText bytes = (length bytes ≤ 1048576) × (IsUtf8 bytes → ⊥)
IsNoText Failed bytes = Unit {0}
IsNoText Memory bytes = Unit {0}

-- WHAT READING A FILE ANSWERS, by its bytes where they are told
abbrev pub ReadsFile : Option (List ℕ) → Result (List ℕ) ReadError → Type 0
ReadsFile told (Ok text) = IsFile told text
ReadsFile told (Err why) = IfSome told (IsNoText why)

-- why a reading ended early, if it did
abbrev pub why_of : {T : Type 0} → Result T ReadError → Option ReadError
why_of (Ok t) = None
why_of (Err why) = Some why

abbrev pub NoneFailed : List SourceSeen → Type 0
NoneFailed [] = Unit {0}
NoneFailed (s ∷ ss) = (s.faults ≡ 0) × NoneFailed ss

-- the last one failed, and no other
abbrev pub LastFailed : List SourceSeen → Type 0
LastFailed [] = ⊥
LastFailed (s ∷ []) = 0 < s.faults
LastFailed (s ∷ t ∷ ss) = (s.faults ≡ 0) × LastFailed (t ∷ ss)

-- THE CAUSE: a file can't be read only where the host failed to open it, or its source failed; in every other case nothing failed
abbrev pub HasCause : Option ReadError → ℕ → ℕ → List SourceSeen → Type 0
HasCause (Some Failed) old new opened = (Rises old new × NoneFailed opened) ⊎ ((new ≡ old) × LastFailed opened)
HasCause _ old new opened = (new ≡ old) × NoneFailed opened

-- WHAT READING DOES to the host, and to the list of sources: those that it opened stand at its end, in order
pub record Opens (why : Option ReadError) (old new : HostSeen) (before after : List SourceSeen) : Type 0 where
  pub same : new.scripts ≡ old.scripts
  pub opened : List SourceSeen
  pub behind : after ≡ before ++ opened
  pub cause : HasCause why old.faults new.faults opened

-- the texts of the files of these names, in order
abbrev pub AreFiles : (List ℕ → Option (List ℕ)) → List (List ℕ) → List (List ℕ) → Type 0
AreFiles told [] [] = Unit {0}
AreFiles told (name ∷ names) (text ∷ texts) = IsFile (told name) text × AreFiles told names texts
AreFiles told [] (text ∷ texts) = ⊥
AreFiles told (name ∷ names) [] = ⊥

-- the first file that wasn't read, and those before it, which were
pub record StopsAt (told : List ℕ → Option (List ℕ)) (names : List (List ℕ)) (file : ℕ) (why : ReadError) : Type 0 where
  pub within : file < length names
  pub texts : List (List ℕ)
  pub before : AreFiles told (take file names) texts
  pub there : IfSome (told (slice_index_or names file [])) (IsNoText why)

-- WHAT READING FILES ANSWERS
abbrev pub ReadsFiles : (List ℕ → Option (List ℕ)) → List (List ℕ) → Result (List (List ℕ)) FileError → Type 0
ReadsFiles told names (Ok texts) = AreFiles told names texts
ReadsFiles told names (Err e) = StopsAt told names e.file e.why

abbrev pub why_first : {T : Type 0} → Result T FileError → Option ReadError
why_first (Ok t) = None
why_first (Err e) = Some e.why

-- one text more
abbrev pub ReadsNext : Option (List ℕ) → List (List ℕ) → List (List ℕ) → Result Unit ReadError → Type 0
ReadsNext told old new (Ok done) = (text : List ℕ) × (new ≡ old ++ text ∷ []) × IsFile told text
ReadsNext told old new (Err why) = (new ≡ old) × IfSome told (IsNoText why)

-- bytes that were read, and why no more were
abbrev pub why_read : FileRead → Option ReadError
why_read (Whole bytes) = None
why_read TooMuch = None
why_read NotRead = Some Failed
why_read NoRoom = Some Memory

abbrev pub ReadsAs : List ℕ → FileRead → Type 0
ReadsAs bytes (Whole read) = bytes ≡ read.items
ReadsAs bytes TooMuch = 1048576 < length bytes
ReadsAs bytes NotRead = Unit {0}
ReadsAs bytes NoRoom = Unit {0}

-- what the bytes that were read are as a text
abbrev pub Judges : FileRead → Result (List ℕ) ReadError → Type 0
Judges (Whole bytes) (Ok text) = (text ≡ bytes.items) × IsUtf8 text × (length text ≤ 1048576)
Judges (Whole bytes) (Err why) = (why ≡ NotText) × (IsUtf8 bytes.items → ⊥) × (length bytes.items ≤ 1048576)
Judges TooMuch result = result ≡ Err TooLong
Judges NotRead result = result ≡ Err Failed
Judges NoRoom result = result ≡ Err Memory

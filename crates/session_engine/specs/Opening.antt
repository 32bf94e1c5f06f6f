-- What an engine begins with.
use Rattle.std.specs.Prelude.{◌≡◌, ℕ, [], true, false, None}
use Rattle.dby_types.specs.declared.number.Level.TheVariants.{Cs}
use Rattle.dby_types.specs.declared.number.RowId.{RowId}
use Rattle.store_api.specs.View.{View, live}
use Rattle.sql_lexer.specs.Splitting.{spans_of}
use Rattle.session_engine.specs.Listed.{ReadsListings}
use Rattle.session_engine.specs.declared.session.Phase.TheVariants.{Idle}
use Rattle.session_engine.specs.declared.session.Session.{Session}

-- a store without a row, a transaction, or a page that an actor holds
pub record IsEmptyStore (v : View) : Type 0 where
  pub rows : (table : ℕ) (rid : RowId) → live (v.content.heaps table rid) ≡ None
  pub changes : (t : ℕ) → v.content.changes t ≡ None
  pub held : (a : ℕ) → (v.actors a).pages ≡ 0
  -- its catalog can be read and written
  pub catalogs : ReadsListings v

-- a connection that has begun no statement of its script
pub record IsNew (s : Session) : Type 0 where
  pub spans : s.spans ≡ spans_of s.script
  pub begun : s.begun ≡ 0
  pub level : s.level ≡ Cs
  pub automatic : s.automatic ≡ true
  pub closed : s.closed ≡ false
  pub phase : s.phase ≡ Idle
  pub txn : s.txn ≡ record { 0 = 0 }
  pub opened : s.opened ≡ false
  pub queued : s.queued ≡ false
  pub made : s.made.items ≡ []

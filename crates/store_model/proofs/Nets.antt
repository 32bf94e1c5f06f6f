-- Net changes make the same tables.
use Rattle.std.proofs.Common.{◌≡◌, ℕ, zero, suc, List, [], ◌∷◌, ◌++◌, length, take, refl, sym, ◌∙◌, ap, subst}
use Rattle.std.specs.Prelude.{◌&&◌, ◌==◌, if◌then◌else◌}
use Rattle.dby_types.specs.declared.number.RowId.{RowId}
use Rattle.table_model.specs.Tables.{Tables, is_same_rid}
use Rattle.table_model.specs.Tables as tables
use Rattle.log_model.specs.Places.{Place, Database, Change, put, row_place, container_place, laid_over, after_commits}
use Rattle.log_model.specs.Steps.{changes_of}
use Rattle.log_model.specs.States.{State, IsSound}
use Rattle.log_model.specs.Bases.{net_of}
use Rattle.log_model.proofs.Effects.{row_put, container_put}
use Rattle.log_model.proofs.Bases.{commit_nets}
use Rattle.store_api.specs.declared.slot.Item.{Item}
use Rattle.store_api.specs.declared.slot.Item.TheVariants.{Changed, Created, Discarded}
use Rattle.store_api.specs.View.{Content, Heaps, live, changes_in}
use Rattle.store_api.specs.Crashes.{Net, net_in}
use Rattle.store_api.specs.Crashes as contract
use Rattle.store_model.specs.Nets.{Row, IsRead, AreItems, Shows, IsNet, AreNets}

-- a row put
row_read : (d : Database Row) (seen : Tables) (table : ℕ) (rid : RowId) (x y : Row) → IsRead d seen → y ≡ x → IsRead (put d (row_place table rid) x) (tables.put seen table rid y)
row_read d seen table rid x y h e t r =
    ap (λ z. if (t == table) && is_same_rid r rid then y else z) (h t r) ∙ ap (λ z. if (t == table) && is_same_rid r rid then z else d (row_place t r)) e ∙ sym (row_put d table t rid r x)

-- something at a container's own place
container_read : (d : Database Row) (seen : Tables) (p : Place) (n : ℕ) (x : Row) → p ≡ container_place n → IsRead d seen → IsRead (put d p x) seen
container_read d seen p n x e h t r = h t r ∙ sym (ap (λ q. put d q x (row_place t r)) e ∙ container_put d n t r x)

items_read : (heaps : Heaps) (shown : Database Row) → ((table : ℕ) (rid : RowId) → live (heaps table rid) ≡ shown (row_place table rid))
    → (cs : List (Change Row)) (items : List Item) → AreItems cs items → (d : Database Row) (seen : Tables) → IsRead d seen → IsRead (laid_over (net_of shown cs) d) (contract.laid_over (contract.net_of heaps items) seen)
items_read heaps shown rows [] [] are d seen h = h
items_read heaps shown rows [] (i ∷ items) are d seen h = absurd are
items_read heaps shown rows (c ∷ cs) [] are d seen h = absurd are
items_read heaps shown rows (c ∷ cs) (Changed table rid before ∷ items) are d seen h =
    subst (λ (p : Place). IsRead (put (laid_over (net_of shown cs) d) p (shown p)) (tables.put (contract.laid_over (contract.net_of heaps items) seen) table rid (live (heaps table rid)))) (sym are.0.0)
    (row_read (laid_over (net_of shown cs) d) (contract.laid_over (contract.net_of heaps items) seen) table rid (shown (row_place table rid)) (live (heaps table rid))
    (items_read heaps shown rows cs items are.1 d seen h) (rows table rid))
items_read heaps shown rows (c ∷ cs) (Created n ∷ items) are d seen h =
    container_read (laid_over (net_of shown cs) d) (contract.laid_over (contract.net_of heaps items) seen) c.place n (shown c.place) are.0 (items_read heaps shown rows cs items are.1 d seen h)
items_read heaps shown rows (c ∷ cs) (Discarded n ∷ items) are d seen h =
    container_read (laid_over (net_of shown cs) d) (contract.laid_over (contract.net_of heaps items) seen) c.place n (shown c.place) are.0 (items_read heaps shown rows cs items are.1 d seen h)

-- A COMMIT'S NET CHANGES are those of the store's contract
pub commit_net : (base : Database Row) (s : State Row) (d : Content) (t : ℕ) → IsSound base s → Shows d s → IsNet (changes_of t s.standing) (net_in d t)
commit_net base s d t sound shows e seen h table rid =
    items_read d.heaps s.shown shows.rows (changes_of t s.standing) (changes_in (d.changes t)) (shows.items t) e seen h table rid
    ∙ sym (commit_nets base s t e sound (row_place table rid))

pub nets_push : (css : List (List (Change Row))) (nets : List (List Net)) (cs : List (Change Row)) (net : List Net) → AreNets css nets → IsNet cs net → AreNets (css ++ cs ∷ []) (nets ++ net ∷ [])
nets_push [] [] cs net h k = (k, tt)
nets_push [] (n ∷ nets) cs net h k = absurd h
nets_push (x ∷ css) [] cs net h k = absurd h
nets_push (x ∷ css) (n ∷ nets) cs net h k = (h.0, nets_push css nets cs net h.1 k)

pub nets_length : (css : List (List (Change Row))) (nets : List (List Net)) → AreNets css nets → length css ≡ length nets
nets_length [] [] h = refl
nets_length [] (n ∷ nets) h = absurd h
nets_length (x ∷ css) [] h = absurd h
nets_length (x ∷ css) (n ∷ nets) h = ap suc (nets_length css nets h.1)

pub nets_take : (k : ℕ) (css : List (List (Change Row))) (nets : List (List Net)) → AreNets css nets → AreNets (take k css) (take k nets)
nets_take k [] (n ∷ nets) h = absurd h
nets_take k (x ∷ css) [] h = absurd h
nets_take zero [] [] h = tt
nets_take (suc k) [] [] h = tt
nets_take zero (x ∷ css) (n ∷ nets) h = tt
nets_take (suc k) (x ∷ css) (n ∷ nets) h = (h.0, nets_take k css nets h.1)

pub commits_read : (css : List (List (Change Row))) (nets : List (List Net)) (base : Database Row) (seen : Tables) → AreNets css nets → IsRead base seen → IsRead (after_commits base css) (contract.after_commits seen nets)
commits_read [] [] base seen h k = k
commits_read [] (n ∷ nets) base seen h k = absurd h
commits_read (x ∷ css) [] base seen h k = absurd h
commits_read (x ∷ css) (n ∷ nets) base seen h k = commits_read css nets (laid_over x base) (contract.laid_over n seen) h.1 (h.0 base seen k)

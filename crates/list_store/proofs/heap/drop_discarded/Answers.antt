use Rattle.std.specs.Option.{option_to_list}
use Rattle.std.proofs.Common.{◌≡◌, List, [], ◌∷◌, ◌++◌, None, reverse, sym, ap, ◌∙◌}
use Rattle.std.proofs.lemmas.List.{reverse-append}
use Rattle.store_api.specs.declared.slot.Item.{Item}
use Rattle.list_store.specs.Heaps.{rows_in, given_in, without_discarded}
use Rattle.list_store.proofs.HeapLemmas.{discarded_step}
use Rattle.list_store.proofs.heap.drop_discarded.Goals as goal

pub loop-item-preserved : goal.loop-item-preserved
loop-item-preserved c =
    let turned : c.in-Some.item ∷ reverse c.pop.new.self.items ≡ reverse c.loop-item.items.items =
    sym (ap reverse (c.pop.ensures.items ∙ ap (λ r. c.pop.new.self.items ++ option_to_list r) c.in-Some.is) ∙ reverse-append c.pop.new.self.items (c.in-Some.item ∷ [])) in
    record {
      rows = λ n. discarded_step [] (reverse c.pop.new.self.items) c.in-Some.item (rows_in c.loop-item.heaps.entries) (rows_in c.drop_if_discarded.new.heaps.entries) c.drop_if_discarded.ensures.rows_are n
          ∙ ap (λ (xs : List Item). without_discarded [] xs (rows_in c.loop-item.heaps.entries) n) turned ∙ c.loop-item.invariant.rows n;
      given = λ n. discarded_step None (reverse c.pop.new.self.items) c.in-Some.item (given_in c.loop-item.heaps.entries) (given_in c.drop_if_discarded.new.heaps.entries) c.drop_if_discarded.ensures.given_are n
          ∙ ap (λ (xs : List Item). without_discarded None xs (given_in c.loop-item.heaps.entries) n) turned ∙ c.loop-item.invariant.given n;
    }

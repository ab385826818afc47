use Rattle.std.proofs.Common.{◌≡◌, ℕ, map, Vec, Global, refl, ap, subst}
use Rattle.std.specs.Str.{bytes_eq}
use Rattle.form_tokens.specs.Names.{Table, AreNames}
use Rattle.form_tokens.proofs.NamesLemmas.{map-insert_key, AreNames-push}
use Rattle.form_tokens.proofs.names.Names.append.Goals as goal

pub returns-clause-added : goal.returns-clause-added
returns-clause-added c =
    map-insert_key (λ (a b : Vec ℕ Global). bytes_eq a.items b.items) (λ v. v.items) c.self.inside.list.keys c.insert.new.self.keys c.in_ok-copied.copied c.args.name.now c.args.self.now.names (λ k. refl) c.in_ok-copied.ensures.items (ap (λ (t : Table). t.names) c.self.view_is) c.requires.new c.in_ok-insert.ensures.keys

pub invariant_of-self-2 : goal.invariant_of-self-2
invariant_of-self-2 c =
    let keys : map (λ (v : Vec ℕ Global). v.items) c.self.inside.list.keys ≡ c.args.self.now.names = ap (λ (t : Table). t.names) c.self.view_is in
    let added = map-insert_key (λ (a b : Vec ℕ Global). bytes_eq a.items b.items) (λ v. v.items) c.self.inside.list.keys c.insert.new.self.keys c.in_ok-copied.copied c.args.name.now c.args.self.now.names (λ k. refl) c.in_ok-copied.ensures.items keys c.requires.new c.in_ok-insert.ensures.keys in
    AreNames-push c.args.self.now.names _ c.args.name.now (subst AreNames keys c.self.invariant) c.requires.room c.requires.new c.requires.valid added

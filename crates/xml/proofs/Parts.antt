-- What is known of the parts of a tree that is right. Assumes nothing.
use Prim.Native.Nat.{ℕ, ◌≤◌}
use mathlib.Core.Path.{◌≡◌}
use mathlib.Core.Bool.{true, ◌&&◌}
use mathlib.Core.List.{List}
use borrow.Author.Tests.{leb-true}
use lib.Dec.{leb}
use Rattle.fields.proofs.Tests.{and_left, and_right}
use Rattle.xml.specs.Bytes.{is_space, is_text, all_of, is_named}
use Rattle.xml.specs.Tree.{Attribute, Tag, Element, nesting, Content, text_then, declared, Document}
use Rattle.xml.specs.WellFormed.{
  right_attributes,
  distinct,
  right_tag,
  right_element,
  right_content,
  declares,
  right_prolog,
  depth,
  deepest,
  well_formed,
}

module _ (t : Tag) (h : right_tag t ≡ true) where
  abbrev named : is_named t.name && right_attributes t.attributes ≡ true
  named =
      and_left (is_named t.name && right_attributes t.attributes) (distinct t.attributes)
      (and_left _ (all_of is_space t.space) h)

  pub tag-name : is_named t.name ≡ true
  tag-name = and_left (is_named t.name) (right_attributes t.attributes) named

module _ (t : Tag) (c : Content) (s : List ℕ) (h : right_element (nesting t c s) ≡ true) where
  pub nesting-tag : right_tag t ≡ true
  nesting-tag = and_left (right_tag t) (right_content c) (and_left (right_tag t && right_content c) (all_of is_space s) h)

  pub nesting-content : right_content c ≡ true
  nesting-content = and_right (right_tag t) (right_content c) (and_left (right_tag t && right_content c) (all_of is_space s) h)

  pub nesting-space : all_of is_space s ≡ true
  nesting-space = and_right (right_tag t && right_content c) (all_of is_space s) h

module _ (s : List ℕ) (e : Element) (c : Content) (h : right_content (text_then s e c) ≡ true) where
  pub content-text : all_of is_text s ≡ true
  content-text = and_left (all_of is_text s) (right_element e) (and_left (all_of is_text s && right_element e) (right_content c) h)

  pub content-element : right_element e ≡ true
  content-element = and_right (all_of is_text s) (right_element e) (and_left (all_of is_text s && right_element e) (right_content c) h)

  pub content-rest : right_content c ≡ true
  content-rest = and_right (all_of is_text s && right_element e) (right_content c) h

module _ (more : List Attribute) (s : List ℕ) (h : right_prolog (declared more s) ≡ true) where
  pub declared-declares : declares more ≡ true
  declared-declares =
      and_left (declares more) (right_attributes more) (and_left (declares more && right_attributes more) (all_of is_space s) h)

  pub declared-attributes : right_attributes more ≡ true
  declared-attributes =
      and_right (declares more) (right_attributes more) (and_left (declares more && right_attributes more) (all_of is_space s) h)

  pub declared-space : all_of is_space s ≡ true
  declared-space = and_right (declares more && right_attributes more) (all_of is_space s) h

module _ (d : Document) (h : well_formed d ≡ true) where
  abbrev to_end : (right_prolog d.prolog && all_of is_space d.space && right_element d.root && all_of is_space d.end) ≡ true
  to_end =
      and_left
      (right_prolog d.prolog && all_of is_space d.space && right_element d.root && all_of is_space d.end)
      (leb (depth d.root) deepest)
      h

  abbrev to-root : (right_prolog d.prolog && all_of is_space d.space && right_element d.root) ≡ true
  to-root =
      and_left (right_prolog d.prolog && all_of is_space d.space && right_element d.root) (all_of is_space d.end) to_end

  abbrev to_space : (right_prolog d.prolog && all_of is_space d.space) ≡ true
  to_space = and_left (right_prolog d.prolog && all_of is_space d.space) (right_element d.root) to-root

  pub document-prolog : right_prolog d.prolog ≡ true
  document-prolog = and_left (right_prolog d.prolog) (all_of is_space d.space) to_space

  pub document-space : all_of is_space d.space ≡ true
  document-space = and_right (right_prolog d.prolog) (all_of is_space d.space) to_space

  pub document-root : right_element d.root ≡ true
  document-root = and_right (right_prolog d.prolog && all_of is_space d.space) (right_element d.root) to-root

  pub document-end : all_of is_space d.end ≡ true
  document-end =
      and_right (right_prolog d.prolog && all_of is_space d.space && right_element d.root) (all_of is_space d.end) to_end

  pub document-depth : depth d.root ≤ deepest
  document-depth =
      leb-true
      (depth d.root)
      deepest
      (and_right
      (right_prolog d.prolog && all_of is_space d.space && right_element d.root && all_of is_space d.end)
      (leb (depth d.root) deepest)
      h)

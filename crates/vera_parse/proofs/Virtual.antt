-- A class's members, as the grammar has them and as they are read, with what they share in front.
use Rattle.std.proofs.Common.{ℕ, Bool, true, false, List}
use Rattle.grammar_laws.specs.Languages.{Lang, sequence, choice, pure, ◌<$>◌}
use Rattle.grammar_laws.proofs.Regroup.{Into, assoc_to, assoc_back, inside, spread_to, spread_back, beside, then_into, into_left, into_right, both_into, pure_to, pure_back, share_to}
use Rattle.vera_ast.specs.declared.codes.TheConstants as code
use Rattle.vera_ast.specs.declared.token.Token.{Token}
use Rattle.vera_ast.specs.declared.tree.classes.Member.{Member}
use Rattle.vera_ast.specs.declared.tree.classes.Member.TheVariants as member
use Rattle.vera_ast.specs.declared.tree.declarations.DataType.{DataType}
use Rattle.vera_ast.specs.declared.tree.declarations.Decl.{Decl}
use Rattle.vera_ast.specs.declared.tree.items.Parameter.{Parameter}
use Rattle.vera_ast.specs.declared.tree.statements.Block.{Block}
use Rattle.parse_cursor.specs.Tokens as g
use Rattle.parse_cursor.specs.Lists.{flag}
use Rattle.vera_parse.specs.Items.{task, func, task_member, func_member, class_member}

module _ {A : Type 0} (c : ℕ) (f : Bool → Lang Token A) where
  abbrev with_word : Lang Token A
  with_word = sequence (g.word c) (λ line. f true)

  abbrev flagged : Lang Token A
  flagged = sequence (sequence (g.word c) (λ line. pure true)) f

  there_to : Into flagged with_word
  there_to = then_into flagged _ with_word (assoc_to (g.word c) (λ line. pure true) f) (inside (g.word c) (λ line. sequence (pure true) f) (λ line. f true) (λ line. pure_to true f))

  there_back : Into with_word flagged
  there_back = then_into with_word _ flagged (inside (g.word c) (λ line. f true) (λ line. sequence (pure true) f) (λ line. pure_back true f)) (assoc_back (g.word c) (λ line. pure true) f)

  -- [ word ] f is word f, or f without it
  pub flag_to : Into (sequence (flag c) f) (choice with_word (f false))
  unfolding flag
  flag_to = then_into _ _ _ (spread_to (sequence (g.word c) (λ line. pure true)) (pure false) f) (beside flagged _ with_word _ there_to (pure_to false f))

  pub flag_back : Into (choice with_word (f false)) (sequence (flag c) f)
  unfolding flag
  flag_back = then_into _ _ _ (beside with_word _ flagged _ there_back (pure_back false f)) (spread_back (sequence (g.word c) (λ line. pure true)) (pure false) f)

module _ (data_type : Lang Token DataType) (params : Lang Token (List Parameter)) (decl : Lang Token Decl) (block : Lang Token Block) where
  abbrev pub field : Lang Token Member
  field = member.Field <$> decl

  abbrev a_task : Bool → Lang Token Member
  a_task b = member.Task b <$> task params block

  abbrev a_func : Bool → Lang Token Member
  a_func b = member.Function b <$> func data_type params block

  -- a method with or without `virtual` before it
  abbrev pub method : Bool → Lang Token Member
  method b = choice (a_task b) (a_func b)

  abbrev virtual : Lang Token Member
  virtual = sequence (g.word code.VIRTUAL) (λ line. method true)

  abbrev pub as_read : Lang Token Member
  as_read = choice virtual (choice (method false) field)

  -- of one kind of method
  kind_to : (one : Bool → Lang Token Member) → ((b : Bool) → Into (one b) (method b)) → Into (sequence (flag code.VIRTUAL) one) as_read
  kind_to one h =
      then_into _ (choice (with_word code.VIRTUAL one) (one false)) as_read (flag_to code.VIRTUAL one)
      (both_into (with_word code.VIRTUAL one) (one false) as_read
      (into_left (with_word code.VIRTUAL one) virtual _ (inside (g.word code.VIRTUAL) (λ line. one true) (λ line. method true) (λ line. h true)))
      (into_right (one false) virtual _ (into_left (one false) (method false) field (h false))))

  pub members_to : Into (class_member data_type params decl block) as_read
  unfolding class_member task_member func_member
  members_to =
      both_into field _ as_read (into_right field virtual _ (into_right field (method false) field (λ d w r a x. x)))
      (both_into _ _ as_read (kind_to a_task (λ b. into_left (a_task b) (a_task b) (a_func b) (λ d w r a x. x)))
      (kind_to a_func (λ b. into_right (a_func b) (a_task b) (a_func b) (λ d w r a x. x))))

  -- one kind of method, with or without `virtual`
  with_to : (one : Bool → Lang Token Member) → Into (with_word code.VIRTUAL one) (sequence (flag code.VIRTUAL) one)
  with_to one = then_into (with_word code.VIRTUAL one) (choice (with_word code.VIRTUAL one) (one false)) _ (into_left (with_word code.VIRTUAL one) (with_word code.VIRTUAL one) (one false) (λ d w r a x. x)) (flag_back code.VIRTUAL one)

  without_to : (one : Bool → Lang Token Member) → Into (one false) (sequence (flag code.VIRTUAL) one)
  without_to one = then_into (one false) (choice (with_word code.VIRTUAL one) (one false)) _ (into_right (one false) (with_word code.VIRTUAL one) (one false) (λ d w r a x. x)) (flag_back code.VIRTUAL one)

  abbrev methods : Lang Token Member
  methods = choice (sequence (flag code.VIRTUAL) a_task) (sequence (flag code.VIRTUAL) a_func)

  virtual_to : Into virtual methods
  virtual_to =
      then_into virtual (choice (with_word code.VIRTUAL a_task) (with_word code.VIRTUAL a_func)) methods (share_to (g.word code.VIRTUAL) (λ line. a_task true) (λ line. a_func true))
      (beside (with_word code.VIRTUAL a_task) (with_word code.VIRTUAL a_func) _ _ (with_to a_task) (with_to a_func))

  plain_to : Into (method false) methods
  plain_to = beside (a_task false) (a_func false) _ _ (without_to a_task) (without_to a_func)

  pub members_back : Into as_read (class_member data_type params decl block)
  unfolding class_member task_member func_member
  members_back =
      both_into virtual _ _ (into_right virtual field methods virtual_to)
      (both_into (method false) field _ (into_right (method false) field methods plain_to) (into_left field field methods (λ d w r a x. x)))

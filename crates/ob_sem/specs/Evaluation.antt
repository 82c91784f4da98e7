-- What the parts of a tree do (ECMA-262, "ECMAScript Language: Expressions", "Statements and Declarations" and "Functions and Classes", in
-- this project's profile).
--
-- Operands, elements, arguments and properties are evaluated from left to right, each once.
use Rattle.std.specs.Prelude.{ℕ, Bool, true, List, [], ◌∷◌, length, Option, Some, None}
use Rattle.ob_base.specs.Utf16.{utf16}
use Rattle.ob_items.specs.declared.item.Body.{Body}
use Rattle.ob_items.specs.declared.item.Body.TheVariants as B
use Rattle.ob_items.specs.declared.thrown.Thrown.TheVariants as T
use Rattle.ob_items.specs.declared.value.Ref.{Ref}
use Rattle.ob_items.specs.declared.value.Value.{Value}
use Rattle.ob_items.specs.declared.value.Value.TheVariants as V
use Rattle.ob_tree.specs.Scopes.{Bound}
use Rattle.ob_tree.specs.Walks.{variable, binding}
use Rattle.ob_tree_types.specs.declared.cell.SpecForm.TheVariants as forms
use Rattle.ob_tree_types.specs.declared.tree.DeclValue.TheBlock as tree
use Rattle.ob_tree_types.specs.declared.tree.DeclValue.{DeclValue}
use Rattle.ob_tree_types.specs.declared.tree.Expr.{Expr}
use Rattle.ob_tree_types.specs.declared.tree.ForHead.{ForHead}
use Rattle.ob_tree_types.specs.declared.tree.Function.{Function}
use Rattle.ob_tree_types.specs.declared.tree.PropNode.{PropNode}
use Rattle.ob_tree_types.specs.declared.tree.Stmt.{Stmt}
use Rattle.ob_values.specs.Store.{body_of}
use Rattle.ob_actions.specs.Act.{Act, ◌>>=◌, pure, raise, asks, choose}
use Rattle.ob_actions.specs.Calls.{Callee, Called, member_callee, invoke, construct, pull}
use Rattle.ob_actions.specs.Meters.{takes_step, literal_value, throws}
use Rattle.ob_actions.specs.NewItems.{new_array, new_object}
use Rattle.ob_actions.specs.Operators.{truth, unary, binary, compare, needs_second}
use Rattle.ob_actions.specs.Output.{change}
use Rattle.ob_actions.specs.Properties.{Word, Computed, units_of_key, set_property, get_property}
use Rattle.ob_sem.specs.Bindings.{enter, copy, read_name, read_input, first_name}
use Rattle.ob_sem.specs.Closures.{closure, named_function}
use Rattle.ob_tree.specs.Declarations.{declared, declared_function, head_names}
use Rattle.ob_sem.specs.Flows.{Flow, Next, Broke, Continued, Returned, Yielded, after_flow, after_turn, caught, finished}
use Rattle.ob_tree.specs.Functions.{Part, ◌then◌, in_value, in_expr, in_exprs, in_maybe, in_prop, in_head, in_stmt, in_stmts, in_catch}
use Rattle.ob_sem.specs.Loops.{loop, element_loop, pull_loop}
use Rattle.ob_sem.specs.Pending.{Rest, MoreDecls, WhileLoop, DoLoop, ForLoop, ElementLoop, PullLoop, Handler, Last, Ignored, Assigned, Declared}
use Rattle.ob_sem.specs.Scope.{Scope, behind}
use Rattle.ob_sem.specs.Setting.{Setting}
use Rattle.ob_sem.specs.Targets.{Target, Variable, Property, assign_to, update}
use Rattle.ob_sem.specs.Whole.{Whole, Caller, lift, carries}

-- the part of the text over which the names of a `for` reach
abbrev pub for_extent : ForHead → tree.Held-DeclValue-Yield-0 → tree.Held-DeclValue-Yield-0 → Stmt → Part
for_extent head test update a = in_head head then in_maybe test then in_maybe update then in_stmt a

-- how many bindings are new in each turn of a `for`: those of `let`
abbrev pub copied_names : ForHead → ℕ
copied_names (tree.ForHead::Let' n decls) = length (head_names (tree.ForHead::Let' n decls))
copied_names _ = 0

-- the word of a member
abbrev pub member_word : Expr → Option (List ℕ)
member_word (tree.Member' _ a word) = Some (utf16 word)
member_word _ = None

module _ (set : Setting) where
  -- function declarations are set at the entry of their block, in order
  abbrev pub set_function : Option (List ℕ × Function) → Scope → Act Whole (Unit {0})
  set_function None sc = pure tt
  set_function (Some f) sc = closure set f.1 sc >>= (λ v. first_name set f.0 v sc)

  abbrev pub set_functions : {m : _} → tree.Row_of-Stmt m → Scope → Act Whole (Unit {0})
  set_functions tree.end_of-Stmt sc = pure tt
  set_functions (tree.more_of-Stmt s rest) sc =
      set_function (declared_function s) sc >>= (λ _. set_functions rest (behind (in_stmt s) sc))

  -- a block in a scope of these bindings: first what has a value at once, then the functions, then the statements
  abbrev pub in_block : {m : _} → List Bound → tree.Row_of-Stmt m → (Scope → Act Whole (Unit {0})) → (Scope → Act Whole Flow) → Scope → Act Whole Flow
  in_block bs items give body sc =
      enter set bs (in_stmts items) sc >>= (λ inner. give inner >>= (λ _. set_functions items inner >>= (λ _. body inner)))

  -- one turn of a `for` over elements: its name, which is new in each turn, and then a step
  abbrev pub with_element_in : Bool → List ℕ → Stmt → Scope → (Scope → Act Whole Flow) → Value → Act Whole Flow
  with_element_in k x a sc body v =
      enter set (binding k x ∷ []) (in_stmt a) sc >>= (λ inner.
      first_name set x v inner >>= (λ _. lift (takes_step set.world) >>= (λ _. body inner)))

  -- what is called: for a member its object, then the method or the property of that name
  abbrev pub callee_by : Option (List ℕ) → Act Whole Value → Act Whole Value → Act Whole Callee
  callee_by None object value = value >>= (λ v. pure (Called v))
  callee_by (Some word) object value = object >>= (λ v. lift (member_callee set.world v word))

module _ (set : Setting) (enter_call : Caller) where
  -- what a `for` over elements goes through: an array, or a generator object, to which undefined is sent
  abbrev pub over : Ref → Option Body → Bool → List ℕ → Stmt → Scope → (Scope → Act Whole Flow) → Act Whole Flow
  over r (Some (B.Array values)) k x a sc body =
      element_loop set.world r 0 (λ i. ElementLoop r i k x a sc) (with_element_in set k x a sc body)
  over r (Some (B.Generator kept)) k x a sc body =
      pull_loop set.world r (carries enter_call (pull set.world r V.Undefined)) (PullLoop r k x a sc) (with_element_in set k x a sc body)
  over r _ k x a sc body = lift (throws set.world T.NotIterable)

  abbrev pub over_value : Value → Bool → List ℕ → Stmt → Scope → (Scope → Act Whole Flow) → Act Whole Flow
  over_value (V.Ref r) k x a sc body s = over r (body_of s.core.store r) k x a sc body s
  over_value v k x a sc body s = lift (throws set.world T.NotIterable) s

  abbrev mutual
    pub eval : Expr → Scope → Act Whole Value
    eval tree.Undefined sc = pure V.Undefined
    eval tree.Null sc = pure V.Null
    eval (tree.Bool b) sc = pure (V.Bool b)
    eval (tree.Int n) sc = pure (V.Int n)
    eval (tree.Text units) sc = lift (literal_value set.world units)
    eval (tree.Name x) sc = read_name set x sc
    eval (tree.ViewofName x) sc = read_input set forms.Viewof x sc
    eval (tree.Array' _ items) sc = evals items sc >>= (λ values. lift (new_array set.world values))
    eval (tree.Object' _ props) sc = lift (new_object set.world) >>= (λ o. set_props props o sc >>= (λ _. pure o))
    eval (tree.Expr::Function' n ps g body) sc = named_function set n (record { name = n; params = ps; generator = g; body = body }) sc
    eval (tree.Arrow' n ps g body) sc = closure set (record { name = n; params = ps; generator = g; body = body }) sc
    eval (tree.Unary' op _ a) sc = only a sc >>= (λ x. lift (unary set.world op x))
    eval (tree.Binary' op _ a _ b) sc =
        only a sc >>= (λ x. only b (behind (in_exprs a) sc) >>= (λ y. lift (binary set.world op x y)))
    eval (tree.Compare' op _ a _ b) sc =
        only a sc >>= (λ x. only b (behind (in_exprs a) sc) >>= (λ y. lift (compare set.world op x y)))
    eval (tree.Logic' op _ a _ b) sc =
        only a sc >>= (λ x. asks (λ s. needs_second s.core.store op x) >>= (λ needed.
        choose needed (only b (behind (in_exprs a) sc)) (pure x)))
    eval (tree.Cond' _ c _ a _ b) sc =
        only c sc >>= (λ v. lift (truth v) >>= (λ holds.
        choose holds (only a (behind (in_exprs c) sc)) (only b (behind (in_exprs a) (behind (in_exprs c) sc)))))
    eval (tree.Assign' op _ a _ b) sc = only_target a sc >>= (λ t. assign_to set op t sc (only b (behind (in_exprs a) sc)))
    eval (tree.Update' op before _ a) sc = only_target a sc >>= (λ t. update set op before t sc)
    eval (tree.Member' _ a word) sc = only a sc >>= (λ v. lift (get_property set.world v (Word (utf16 word))))
    eval (tree.Index' _ a _ k) sc =
        only a sc >>= (λ v. only k (behind (in_exprs a) sc) >>= (λ key. lift (get_property set.world v (Computed key))))
    eval (tree.Call' _ f _ args) sc =
        only_callee f sc >>= (λ c. evals args (behind (in_exprs f) sc) >>= (λ values. carries enter_call (invoke set.world c values)))
    eval (tree.New' x _ args) sc = read_name set x sc >>= (λ c. evals args sc >>= (λ values. lift (construct set.world c values)))

    -- a part that stands in a row of one
    pub only : {m : _} → tree.Row_of-Expr m → Scope → Act Whole Value
    only tree.end_of-Expr sc = pure V.Undefined
    only (tree.more_of-Expr a rest) sc = eval a sc

    pub evals : {m : _} → tree.Row_of-Expr m → Scope → Act Whole (List Value)
    evals tree.end_of-Expr sc = pure []
    evals (tree.more_of-Expr a rest) sc = eval a sc >>= (λ v. evals rest (behind (in_expr a) sc) >>= (λ vs. pure (v ∷ vs)))

    -- a missing part is undefined
    pub maybe : tree.Held-DeclValue-Yield-0 → Scope → Act Whole Value
    maybe tree.DeclValue-Yield-0-None' sc = pure V.Undefined
    maybe (tree.DeclValue-Yield-0-Some' a) sc = eval a sc

    -- a missing test holds
    pub test : tree.Held-DeclValue-Yield-0 → Scope → Act Whole Bool
    test tree.DeclValue-Yield-0-None' sc = pure true
    test (tree.DeclValue-Yield-0-Some' a) sc = eval a sc >>= (λ v. lift (truth v))

    -- ---- targets and callees

    pub only_target : {m : _} → tree.Row_of-Expr m → Scope → Act Whole Target
    only_target tree.end_of-Expr sc = lift (throws set.world T.CannotSet)
    only_target (tree.more_of-Expr a rest) sc = target a sc

    -- a text assigns to names, members and elements alone
    pub target : Expr → Scope → Act Whole Target
    target (tree.Name x) sc = pure (Variable x)
    target (tree.Member' _ a word) sc = only a sc >>= (λ v. pure (Property v (Word (utf16 word))))
    target (tree.Index' _ a _ k) sc =
        only a sc >>= (λ v. only k (behind (in_exprs a) sc) >>= (λ key. pure (Property v (Computed key))))
    target _ sc = lift (throws set.world T.CannotSet)

    pub only_callee : {m : _} → tree.Row_of-Expr m → Scope → Act Whole Callee
    only_callee tree.end_of-Expr sc = pure (Called V.Undefined)
    only_callee (tree.more_of-Expr a rest) sc = callee_by set (member_word a) (λ s. object_of a sc s) (λ s. eval a sc s)

    -- the object of a member
    pub object_of : Expr → Scope → Act Whole Value
    object_of (tree.Member' _ a word) sc = only a sc
    object_of _ sc = pure V.Undefined

    -- ---- properties of an object literal: the key is tested before its value is evaluated

    pub set_prop : PropNode → Value → Scope → Act Whole (Unit {0})
    set_prop (tree.Short x) o sc = read_name set x sc >>= (λ v. lift (set_property set.world o (Word (utf16 x)) v))
    set_prop (tree.Fixed units a) o sc = eval a sc >>= (λ v. lift (set_property set.world o (Word units) v))
    set_prop (tree.Computed k a) o sc =
        eval k sc >>= (λ key. lift (units_of_key set.world (Computed key)) >>= (λ _.
        eval a (behind (in_expr k) sc) >>= (λ v. lift (set_property set.world o (Computed key) v))))

    pub set_props : {m : _} → tree.Row_of-PropNode m → Value → Scope → Act Whole (Unit {0})
    set_props tree.end_of-PropNode o sc = pure tt
    set_props (tree.more_of-PropNode p rest) o sc = set_prop p o sc >>= (λ _. set_props rest o (behind (in_prop p) sc))

    -- ---- statements

    pub exec : Stmt → Scope → Act Whole Flow
    exec (tree.Block' _ items) sc = in_block set (declared items) items (λ inner. pure tt) (λ inner. run items inner) sc
    exec tree.Empty sc = pure Next
    exec (tree.Stmt::Expr a) sc = eval a sc >>= (λ _. pure Next)
    exec (tree.Stmt::Let' _ decls) sc = declare decls sc
    exec (tree.Stmt::Const' _ decls) sc = declare decls sc
    exec (tree.Stmt::Function' n ps g body) sc = pure Next
    exec (tree.Stmt::Yield' None a) sc = maybe a sc >>= (λ v. pure (Yielded v Ignored []))
    exec (tree.Stmt::Yield' (Some x) a) sc = maybe a sc >>= (λ v. pure (Yielded v (Assigned x sc) []))
    exec (tree.Change' x op a) sc =
        maybe a sc >>= (λ v. read_input set forms.Mutable x sc >>= (λ holder. lift (change set.world holder op v) >>= (λ _. pure Next)))
    exec (tree.If' c _ a b) sc =
        eval c sc >>= (λ v. lift (truth v) >>= (λ holds.
        choose holds (only_stmt a (behind (in_expr c) sc)) (otherwise b (behind (in_stmts a) (behind (in_expr c) sc)))))
    exec (tree.While' c _ (tree.more_of-Stmt a tree.end_of-Stmt)) sc =
        loop set.world (WhileLoop c a) (λ i. eval c i >>= (λ v. lift (truth v))) (λ i. exec a (behind (in_expr c) i)) pure sc
    exec (tree.DoWhile' _ (tree.more_of-Stmt a tree.end_of-Stmt) c) sc =
        lift (takes_step set.world) >>= (λ _. exec a sc >>= (λ f. after_turn f (DoLoop a c sc)
        (loop set.world (DoLoop a c) (λ i. eval c (behind (in_stmt a) i) >>= (λ v. lift (truth v))) (λ i. exec a i) pure sc)))
    exec (tree.For' head t u _ (tree.more_of-Stmt a tree.end_of-Stmt)) sc =
        enter set (head_names head) (for_extent head t u a) sc >>= (λ h. start head h >>= (λ _.
        copy set (copied_names head) (behind (in_head head) h) >>= (λ first.
        loop set.world (ForLoop (copied_names head) t u a) (λ i. test t i)
        (λ i. exec a (behind (in_maybe u) (behind (in_maybe t) i)))
        (λ i. copy set (copied_names head) i >>= (λ next. maybe u (behind (in_maybe t) next) >>= (λ _. pure next))) first)))
    exec (tree.ForOf' k x e _ (tree.more_of-Stmt a tree.end_of-Stmt)) sc =
        enter set (binding variable x ∷ []) (in_expr e) sc >>= (λ h. eval e h >>= (λ v.
        over_value v k x a (behind (in_expr e) sc) (λ i. exec a i)))
    exec tree.Break sc = pure Broke
    exec tree.Continue sc = pure Continued
    exec (tree.Return' a) sc = maybe a sc >>= (λ v. pure (Returned v))
    exec (tree.Throw a) sc = eval a sc >>= raise
    exec (tree.Try' _ items c f) sc = λ s.
        finished (Last f (behind (in_catch c) (behind (in_stmts items) sc)))
        (caught (Handler c (behind (in_stmts items) sc))
        (in_block set (declared items) items (λ inner. pure tt) (λ inner. run items inner) sc s)
        (λ v. handle c (behind (in_stmts items) sc) v))
        (last f (behind (in_catch c) (behind (in_stmts items) sc)))

    pub only_stmt : {m : _} → tree.Row_of-Stmt m → Scope → Act Whole Flow
    only_stmt tree.end_of-Stmt sc = pure Next
    only_stmt (tree.more_of-Stmt a rest) sc = exec a sc

    pub otherwise : tree.Held-Stmt-If-2 → Scope → Act Whole Flow
    otherwise tree.Stmt-If-2-None' sc = pure Next
    otherwise (tree.Stmt-If-2-Some' _ a) sc = only_stmt a sc

    pub run : {m : _} → tree.Row_of-Stmt m → Scope → Act Whole Flow
    run tree.end_of-Stmt sc = pure Next
    run (tree.more_of-Stmt a rest) sc =
        exec a sc >>= (λ f. after_flow f (Rest rest (behind (in_stmt a) sc)) (run rest (behind (in_stmt a) sc)))

    -- ---- declarations: without a value a `let` gives undefined

    pub declare : {m : _} → tree.Row_of-Decl m → Scope → Act Whole Flow
    declare tree.end_of-Decl sc = pure Next
    declare (tree.more_of-Decl x tree.DeclValue::Nothing rest) sc = first_name set x V.Undefined sc >>= (λ _. declare rest sc)
    declare (tree.more_of-Decl x (tree.DeclValue::Value a) rest) sc =
        eval a sc >>= (λ v. first_name set x v sc >>= (λ _. declare rest (behind (in_expr a) sc)))
    declare (tree.more_of-Decl x (tree.DeclValue::Yield' a) rest) sc =
        maybe a sc >>= (λ v. pure (Yielded v (Declared x sc) (MoreDecls rest (behind (in_maybe a) sc) ∷ [])))

    -- ---- the head of a `for`, in which no `yield` stands

    pub start : ForHead → Scope → Act Whole (Unit {0})
    start tree.ForHead::Nothing sc = pure tt
    start (tree.ForHead::Let' _ decls) sc = declare_all decls sc
    start (tree.ForHead::Const' _ decls) sc = declare_all decls sc
    start (tree.ForHead::Expr a) sc = eval a sc >>= (λ _. pure tt)

    pub declare_all : {m : _} → tree.Row_of-Decl m → Scope → Act Whole (Unit {0})
    declare_all tree.end_of-Decl sc = pure tt
    declare_all (tree.more_of-Decl x a rest) sc =
        value_of a sc >>= (λ v. first_name set x v sc >>= (λ _. declare_all rest (behind (in_value a) sc)))

    pub value_of : DeclValue → Scope → Act Whole Value
    value_of tree.DeclValue::Nothing sc = pure V.Undefined
    value_of (tree.DeclValue::Value a) sc = eval a sc
    value_of (tree.DeclValue::Yield' a) sc = maybe a sc

    -- ---- the parts of a `try`

    pub handle : tree.Held-Stmt-Try-1 → Scope → Value → Act Whole Flow
    handle tree.Stmt-Try-1-None' sc v = raise v
    handle (tree.Stmt-Try-1-Some' None _ items) sc v =
        in_block set (declared items) items (λ inner. pure tt) (λ inner. run items inner) sc
    handle (tree.Stmt-Try-1-Some' (Some x) _ items) sc v =
        in_block set (binding variable x ∷ declared items) items (first_name set x v) (λ inner. run items inner) sc

    pub last : tree.Held-Stmt-Try-2 → Scope → Act Whole Flow
    last tree.Stmt-Try-2-None' sc = pure Next
    last (tree.Stmt-Try-2-Some' _ items) sc =
        in_block set (declared items) items (λ inner. pure tt) (λ inner. run items inner) sc

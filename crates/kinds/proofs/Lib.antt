-- Laws of the shapes that there are (ShapeLaws), by tests of their rows (Every).
pub mod Every
pub mod ShapeLaws
